-- "Nothing one office does changes the other's blocks or what it reads of them": what a study is to an office. In the words of
-- separation kernels: offices are the domains, calls the actions, and two studies that are alike to an office are equivalent for it.
use Rattle.std.specs.Prelude.{◌≡◌, true, ℕ, length}
use Rattle.open_rules.specs.Open.{Study, owns, block_at}

-- the same places are office o's, and the same entries stand there; the rest may differ
pub record Alike (o : ℕ) (S T : Study) : Type 0 where
  pub owners_long : length S.owners ≡ length T.owners
  pub blocks_long : length S.blocks ≡ length T.blocks
  pub places : (s : ℕ) → owns S.owners o s ≡ owns T.owners o s
  pub entries : (s : ℕ) → owns S.owners o s ≡ true → block_at S.blocks s ≡ block_at T.blocks s
