-- What `icuoffice` is asked to do, what it tells at once, and what `icuoffice STUDY new` gives: the file of a new open study, or what
-- is said.
use Rattle.std.specs.Prelude.{ℕ, Bool, cond, ◌&&◌, List, [], ◌++◌, eqb, Some, None, Ok, Err}
use Rattle.text.specs.Text.{ascii}
use Rattle.open_file.specs.File.{empty_file}
use Rattle.program_words.specs.Words.{word_at}
use Rattle.program_wish.specs.Wish.{same, wish_of, version_text}
use Rattle.program_wish.specs.declared.Wish.{Wish}
use Rattle.program_wish.specs.declared.Wish.TheVariants.{Help as ForHelp, Version as ForVersion, Work}
use Rattle.program_outcome.specs.Outcome.{Outcome, printing, writing, saying, named, remarked}
use Rattle.program_target.specs.Target.{Found, barred_remark}
use Rattle.program_office.specs.declared.Job.{Job}
use Rattle.program_office.specs.declared.Job.TheVariants.{New, Add, Amend, Read, Use, Help, Version}

-- a job is asked for with as many arguments as it takes, the program's name among them, where a word is its name
abbrev pub is_asked : ℕ → ℕ → List ℕ → List ℕ → Bool
is_asked count takes word job = eqb count takes && same word job

-- what an office is to do
unfoldable pub office_job : ℕ → List ℕ → Job
office_job count job =
    cond (is_asked count 5 job (ascii "add")) Add
    (cond (is_asked count 8 job (ascii "amend")) Amend (cond (is_asked count 5 job (ascii "read")) Read Use))

-- the words: a study and `new`, or a study, an office, the job
unfoldable pub work_of : ℕ → List ℕ → Job
work_of count words = cond (is_asked count 3 (word_at words 1) (ascii "new")) New (office_job count (word_at words 2))

abbrev pub job_for : Wish → ℕ → List ℕ → Job
job_for ForHelp count words = Help
job_for ForVersion count words = Version
job_for Work count words = work_of count words

unfoldable pub job_of : ℕ → List ℕ → Job
job_of count words = job_for (wish_of count (word_at words 0)) count words

unfoldable pub office_use : List ℕ
office_use =
    ascii "usage: icuoffice STUDY new                                   makes an open study of 165 free places\n"
    ++ ascii "       icuoffice STUDY OFFICE add TEXT                       puts the text's junction at the lowest free place\n"
    ++ ascii "       icuoffice STUDY OFFICE amend SITE NAME ENTRY VALUE    changes an entry of a site of the office's own\n"
    ++ ascii "       icuoffice STUDY OFFICE read SITE                      prints the sheet of a site of the office's own\n"
    ++ ascii "  OFFICE: the office's number, from 1; sites are counted from 1; NAME ENTRY VALUE: see icuamend --help\n"

-- what is given at once, where there is no study to see to
unfoldable pub told_of : Job → Outcome
told_of New = saying []
told_of Add = saying []
told_of Amend = saying []
told_of Read = saying []
told_of Use = saying office_use
told_of Help = printing office_use
told_of Version = printing version_text

-- a new study, by what was found where it is to stand; what stands there stays
unfoldable pub start_run : Found → List ℕ → Outcome
start_run (Ok None) words = writing empty_file
start_run (Ok (Some size)) words = saying (named (word_at words 0) (ascii "there is such a file, which stays as it is: name another\n"))
start_run (Err why) words = saying (remarked (word_at words 0) (barred_remark why))
