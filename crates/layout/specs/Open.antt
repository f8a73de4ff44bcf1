-- Request Three, "one open study", of 165 places with Request Six: how many there are, and where each site's entries stand among the blocks.
use Rattle.std.specs.Prelude.{ℕ, ◌+◌, ◌*◌}
use Rattle.layout.specs.Entries.{entry_count}

-- "165 places"
abbrev pub place_count : ℕ
place_count = 165

-- "the blocks": of each place as many numbers as a junction has entries
abbrev pub blocks_count : ℕ
blocks_count = entry_count * place_count

-- the first number of the block at place s, and entry i of it
abbrev pub block_from : ℕ → ℕ
block_from s = entry_count * s

abbrev pub block_place : ℕ → ℕ → ℕ
block_place s i = block_from s + i
