-- Working definition: what the checks find before anything is written.
use Rattle.std.specs.Prelude.{ℕ, ◌%◌, ◌≤◌, ◌≡◌, List, length}
use Rattle.study_format.specs.declared.Format.{Format}
use Rattle.study_format.specs.Format.{sites_in, file_bytes}

pub record Writable (f : Format) (entries : List ℕ) (room : ℕ) : Type 0 where
  pub whole : length entries % f.entries ≡ 0
  pub few : sites_in f entries ≤ f.most
  pub fits : file_bytes f (sites_in f entries) ≤ room
