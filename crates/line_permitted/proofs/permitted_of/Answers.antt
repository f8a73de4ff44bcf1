-- An empty approach has 0 in lines 23–25, and in 26 the time of those who cross; any other has its options, the lesser of them, and that weighted.
use mathlib.Core.Bool.{true, false}
use mathlib.Core.Path.{◌≡◌, refl, sym, ◌∙◌}
use Rattle.procedure.specs.Lines.{empty, line23, line24, line25, line26, lesser, weighted, nobody_driving}
use Rattle.line_bounds.proofs.Times.{F_most}
use Rattle.line_permitted.proofs.Laws.{cell_a, cell_b, small_lesser, cell_lesser, weighed_cell}
use Rattle.line_permitted.proofs.permitted_of.Goals as goal

pub is_empty-requires : goal.is_empty-requires
is_empty-requires c = rw c.requires.1 refl

pub weigh_nobody-requires : goal.weigh_nobody-requires
weigh_nobody-requires c =
    (c.requires.0, rw c.requires.1 (F_most _ _))

pub returns-then-is_empty : goal.returns-then-is_empty
unfolding line23 line24 line25 line26 lesser weighted nobody_driving
returns-then-is_empty c =
    let none : empty c.args.s ≡ true = sym c.is_empty.ensures ∙ c.if-is_empty.true in
    rw (c.weigh_nobody.ensures, none, c.requires.1)

pub weigh_if_allowed-weighted-requires : goal.weigh_if_allowed-weighted-requires
weigh_if_allowed-weighted-requires c =
    let x = c.args in (
      c.requires.0,
      rw c.requires.1 (F_most _ _),
      rw (c.lesser_of-lesser.ensures, c.option_a-a.ensures, c.option_b-b.ensures, c.requires.2) (small_lesser x.s x.o x.cycle.0 c.requires.0 c.requires.4),
    )

pub returns : goal.returns
unfolding line26 weighted
returns c =
    let x = c.args in
    let some : empty x.s ≡ false = sym c.is_empty.ensures ∙ c.if-is_empty.false in
    let small = small_lesser x.s x.o x.cycle.0 c.requires.0 c.requires.4 in
    let a : c.cell.result.0 ≡ line23 x.s x.o x.cycle.0 =
    rw (c.cell.ensures, c.option_a-a.ensures) (cell_a x.s x.o x.cycle.0 c.requires.0 c.requires.4 some) in
    let b : c.cell-2.result.0 ≡ line24 x.s x.o x.cycle.0 =
    rw (c.cell-2.ensures, c.option_b-b.ensures, c.requires.2) (cell_b x.s x.o x.cycle.0 c.requires.0 c.requires.4 some) in
    let lesser = cell_lesser x.s x.o x.cycle.0 c.requires.0 c.requires.4 some in
    rw (
      a,
      b,
      c.cell-3.ensures,
      c.cell-4.ensures,
      c.weigh_if_allowed-weighted.ensures,
      c.lesser_of-lesser.ensures,
      c.option_a-a.ensures,
      c.option_b-b.ensures,
      c.requires.1,
      c.requires.2,
      some,
      weighed_cell _ _ _ small,
      lesser,
    )
