-- Each right total is put together from the streets' own values, whose times are small.
use Rattle.layout.specs.Entries.{EB, WB, NB, SB}
use Rattle.answers.specs.declared.Answer.TheVariants.{Accepted}
use Rattle.entries.specs.Judging.{judged}
use Rattle.entries.proofs.Laws.{as_junction}
use Rattle.line_stages.specs.Cells.{cells_of}
use Rattle.sheet_pairs.specs.Cells.{pair_cells}
use Rattle.sheet_street.proofs.Laws.{Small}
use Rattle.sheet.proofs.Laws.{small_street, right_assembled}
use lib.Dec.{lit<}
use mathlib.Core.Path.{◌≡◌, ◌∙◌}
use Rattle.sheet.proofs.rights_at.Goals.{Start}
use Rattle.sheet.proofs.rights_at.Goals as goal

along : (s : Start) → Small (cells_of s.args.along.one) (cells_of s.args.along.other) (pair_cells s.args.along.pair)
along s = small_street s.args.kind s.args.entries.now s.requires.0 (lit< tt) (lit< tt) s.requires.1

across : (s : Start) → Small (cells_of s.args.across.one) (cells_of s.args.across.other) (pair_cells s.args.across.pair)
across s = small_street s.args.kind s.args.entries.now s.requires.0 (lit< tt) (lit< tt) s.requires.2

-- its entries are acceptable for a junction, too
good : (s : Start) → judged s.args.entries.now ≡ Accepted
good s = as_junction s.args.kind s.args.entries.now s.requires.0

pub free_at-requires : goal.free_at-requires
free_at-requires c = (good (goal.at.free_at-requires c).Start, lit< tt)

pub right_of-requires : goal.right_of-requires
right_of-requires c =
    ((along (goal.at.right_of-requires c).Start).right_first, (across (goal.at.right_of-requires c).Start).through_second, (along (goal.at.right_of-requires c).Start).left_second)

pub free_at-requires-2 : goal.free_at-requires-2
free_at-requires-2 c = (good (goal.at.free_at-requires-2 c).Start, lit< tt)

pub right_of-requires-2 : goal.right_of-requires-2
right_of-requires-2 c =
    ((along (goal.at.right_of-requires-2 c).Start).right_second, (across (goal.at.right_of-requires-2 c).Start).through_first, (along (goal.at.right_of-requires-2 c).Start).left_first)

pub free_at-requires-3 : goal.free_at-requires-3
free_at-requires-3 c = (good (goal.at.free_at-requires-3 c).Start, lit< tt)

pub right_of-requires-3 : goal.right_of-requires-3
right_of-requires-3 c =
    ((across (goal.at.right_of-requires-3 c).Start).right_first, (along (goal.at.right_of-requires-3 c).Start).through_first, (across (goal.at.right_of-requires-3 c).Start).left_second)

pub free_at-requires-4 : goal.free_at-requires-4
free_at-requires-4 c = (good (goal.at.free_at-requires-4 c).Start, lit< tt)

pub right_of-requires-4 : goal.right_of-requires-4
right_of-requires-4 c =
    ((across (goal.at.right_of-requires-4 c).Start).right_second, (along (goal.at.right_of-requires-4 c).Start).through_second, (across (goal.at.right_of-requires-4 c).Start).left_first)

pub returns : goal.returns
returns c =
    let k = c.args.kind in
    let e = c.args.entries.now in
    let x = c.args.along in
    let y = c.args.across in
    let ew = c.requires.1 in
    let ns = c.requires.2 in
    record {
      eb =
          c.right_of.ensures
          ∙ right_assembled k e EB WB SB NB x.one y.other x.other x.pair y.pair c.free_at.ensures ew.first ns.second
          ew.second ew.pair ns.pair ew.picked ns.picked;
      wb =
          c.right_of-2.ensures
          ∙ right_assembled k e WB EB NB SB x.other y.one x.one x.pair y.pair c.free_at-2.ensures ew.second ns.first
          ew.first ew.pair ns.pair ew.picked ns.picked;
      nb =
          c.right_of-3.ensures
          ∙ right_assembled k e NB SB EB WB y.one x.one y.other y.pair x.pair c.free_at-3.ensures ns.first ew.first
          ns.second ns.pair ew.pair ns.picked ew.picked;
      sb =
          c.right_of-4.ensures
          ∙ right_assembled k e SB NB WB EB y.other x.other y.one y.pair x.pair c.free_at-4.ensures ns.second ew.second
          ns.first ns.pair ew.pair ns.picked ew.picked;
    }
