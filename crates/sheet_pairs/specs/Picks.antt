-- Working definitions: a pick, "0, 1, 2", and the pick that a number stands for; and what goes by a pick.
use Rattle.std.specs.Prelude.{cond, ℕ, eqb}
use Rattle.sheet_pairs.specs.declared.Pick.{Pick}
use Rattle.sheet_pairs.specs.declared.Pick.TheVariants.{Protected, Permitted, Split}

abbrev pub pick_number : Pick → ℕ
pick_number Protected = 0
pick_number Permitted = 1
pick_number Split = 2

abbrev pub pick_at : ℕ → Pick
pick_at number = cond (eqb number 0) Protected (cond (eqb number 1) Permitted Split)

abbrev pub chosen : {A : Type 0} → Pick → A → A → A → A
chosen Protected protected permitted split = protected
chosen Permitted protected permitted split = permitted
chosen Split protected permitted split = split
