-- The definition's cases in the code's order: nobody turns right, right lanes, else the rights' share of G.
use mathlib.Core.Path.{◌≡◌}
use borrow.Author.Tests.{eq-eqb, ne_eqb, lt-ltb}
use native.Mathlib.Omega.{arith}
use Prim.Native.Nat.{◌<◌}
use Rattle.kinds.specs.declared.Group.TheVariants.{Through, Right}
use Rattle.procedure.specs.Lines.{volume, interference, F}
use Rattle.line_bounds.proofs.Flows.{volumes, rights_within}
use Rattle.line_bounds.proofs.Times.{G_most, bears_none}
use Rattle.line_walkers.proofs.walking_of.Goals as goal

pub overflow_add-s : goal.overflow_add-s
overflow_add-s c =
    let right = c.requires.0.group Right in
    omega (arith, right.lanes.most, right.counted.most)

pub returns-then-s-rights-eq0 : goal.returns-then-s-rights-eq0
unfolding interference F
returns-then-s-rights-eq0 c =
    let laneless : c.args.s.right.lanes.0 ≡ 0 = omega arith in
    let none : c.args.s.right.volume.0.0 ≡ 0 = omega arith in
    let often = c.walkers_frequency-frequency.ensures in
    rw (bears_none c.args.s c.args.cycle.0 none, eq-eqb _ _ laneless, often)

pub returns-then-s-gt0 : goal.returns-then-s-gt0
unfolding interference F
returns-then-s-gt0 c =
    let often = c.walkers_frequency-frequency.ensures in
    rw (ne_eqb c.args.s.right.lanes.0 0 (λ e. omega arith), often, c.walkers_part-part.ensures)

pub share-requires : goal.share-requires
share-requires c =
    let within = rights_within c.args.s (omega arith) in
    let counted = volumes c.args.s c.requires.0 in
    rw (c.walkers_part-part.ensures, c.requires.1) (G_most _ _, within, counted.through)

pub returns : goal.returns
unfolding interference F
returns c =
    let often = c.walkers_frequency-frequency.ensures in
    let laneless : c.args.s.right.lanes.0 ≡ 0 = omega arith in
    let some : 0 < volume c.args.s Through = omega (arith, rights_within c.args.s laneless) in
    rw (eq-eqb _ _ laneless, lt-ltb _ _ some, c.share.ensures, c.walkers_part-part.ensures, c.requires.1, often)
