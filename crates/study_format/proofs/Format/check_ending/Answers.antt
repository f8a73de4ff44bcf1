-- `study_format::Format::check_ending`. Too short, too long, or right: the length's three answers.
use Rattle.study_format.proofs.Laws.{places_fit}
use Rattle.study_format.specs.Format.{file_bytes}
use lib.ListN.{length}
use native.Mathlib.Omega.{arith}
use mathlib.Core.Path.{◌∙◌}
use borrow.Author.Tests.{lt-ltb, le-ltb}
use Rattle.study_format.proofs.Format.check_ending.Goals as goal

pub file_bytes-end-requires : goal.file_bytes-end-requires
file_bytes-end-requires c =
    omega (arith, places_fit c.args.self c.args.sites 0 c.requires (omega arith))

pub refused-requires : goal.refused-requires
refused-requires c =
    omega (arith, places_fit c.args.self c.args.sites c.args.sites c.requires (omega arith))

pub returns-then-length-end : goal.returns-then-length-end
returns-then-length-end c = c.refused.ensures ∙ simp (← c.file_bytes-end.ensures, lt-ltb _ _ c.if-length-end.true)

pub refused-requires-then-extra-gt0 : goal.refused-requires-then-extra-gt0
refused-requires-then-extra-gt0 c =
    omega (arith, places_fit c.args.self c.args.sites c.args.sites c.requires (omega arith))

pub returns-then-extra-gt0 : goal.returns-then-extra-gt0
returns-then-extra-gt0 c =
    let args = c.args in
    let end = file_bytes args.self args.sites in
    let size = length args.file.now in
    c.refused-then-extra-gt0.ensures ∙ simp (c.file_bytes-end.ensures, le-ltb size end (omega arith), lt-ltb end size (omega arith))

pub returns : goal.returns
returns c =
    let args = c.args in
    let end = file_bytes args.self args.sites in
    let size = length args.file.now in
    simp (le-ltb size end (omega arith), le-ltb end size (omega arith))
