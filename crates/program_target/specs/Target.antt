-- What is said of a place where a file is to be written: nothing, where it may be.
use Rattle.std.specs.Prelude.{ℕ, Bool, cond, List, [], take, Option, Some, None, Result, Ok, Err}
use Rattle.answers.specs.declared.Answer.{Answer}
use Rattle.answers.specs.declared.Answer.TheVariants.{Accepted, Refused}
use Rattle.study.specs.Study.{judgement}
use Rattle.program_outcome.specs.declared.Remark.{Remark}
use Rattle.program_outcome.specs.declared.Remark.TheVariants.{Unwritten, InTheWay, Stays, IsLink}
use Rattle.program_outcome.specs.Outcome.{remarked}
use Rattle.program_target.specs.declared.Barred.{Barred}
use Rattle.program_target.specs.declared.Barred.TheVariants.{Link, Closed}

-- a study file is replaced where all that was asked for was done; a file that is no study stays
abbrev pub over_text : Answer → List ℕ → Bool → List ℕ
over_text Accepted name whole = cond whole [] (remarked name Stays)
over_text (Refused why place) name whole = remarked name InTheWay

unfoldable pub bytes_text : List ℕ → List ℕ → Bool → List ℕ
bytes_text name file whole = over_text (judgement file) name whole

-- what is said of a link, and of what is no file, or cannot be read and written
abbrev pub barred_remark : Barred → Remark
barred_remark Link = IsLink
barred_remark Closed = Unwritten

-- a file, of which so many bytes were read; nothing; or why none is written there
abbrev pub Found : Type 0
Found = Result (Option ℕ) Barred

-- what was found there, its name, the area that it was read into, and whether all was done
unfoldable pub target_text : Found → List ℕ → List ℕ → Bool → List ℕ
target_text (Ok None) name area whole = []
target_text (Ok (Some size)) name area whole = bytes_text name (take size area) whole
target_text (Err why) name area whole = remarked name (barred_remark why)
