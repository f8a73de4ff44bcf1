-- What `icustudy` is asked to do; what `icustudy show` gives: a site of a study as text, or what is said; and `icustudy point`.
use Rattle.std.specs.Prelude.{ℕ, ◌-◌, min, cond, List, [], ◌++◌, eqb, leb, ltb}
use Rattle.text.specs.Text.{ascii}
use Rattle.point_start.specs.Start.{start_entries}
use Rattle.text_writer.specs.Writer.{junction_text}
use Rattle.study.specs.Study.{site_limit, site_entries}
use Rattle.program_words.specs.Words.{word_at}
use Rattle.program_wish.specs.Wish.{same, wish_of, version_text}
use Rattle.program_wish.specs.declared.Wish.{Wish}
use Rattle.program_wish.specs.declared.Wish.TheVariants.{Help as ForHelp, Version as ForVersion, Work}
use Rattle.program_outcome.specs.Outcome.{Input, Outcome, printing, saying, with_file}
use Rattle.program_site.specs.Site.{sought, with_site}
use Rattle.program_study.specs.declared.Job.{Job}
use Rattle.program_study.specs.declared.Job.TheVariants.{Make, Show, Convert, Point, TooMany, Use, Help, Version}

-- the arguments before the first text: the program's name, the job's, and the study's
abbrev pub before_texts : ℕ
before_texts = 3

-- how many texts are read: a study holds no more
abbrev pub texts_in : ℕ → ℕ
texts_in count = min (count - before_texts) site_limit

-- the program's name, the job's, and beside them nothing; or a study, and a site to show or a file to write
abbrev pub of_none : ℕ
of_none = 2

abbrev pub of_two : ℕ
of_two = 4

-- a job that is called with as many arguments as it takes
abbrev pub job_with : ℕ → ℕ → Job → Job
job_with count takes job = cond (eqb count takes) job Use

-- by the number of arguments, the program's name among them, and the job's name
unfoldable pub work_of : ℕ → List ℕ → Job
work_of count job =
    cond (same job (ascii "make")) (cond (leb count before_texts) Use (cond (ltb site_limit (count - before_texts)) TooMany Make))
    (cond (same job (ascii "show")) (job_with count of_two Show) (cond (same job (ascii "convert")) (job_with count of_two Convert)
    (cond (same job (ascii "point")) (job_with count of_none Point) Use)))

abbrev pub job_for : Wish → ℕ → List ℕ → Job
job_for ForHelp count job = Help
job_for ForVersion count job = Version
job_for Work count job = work_of count job

unfoldable pub job_of : ℕ → List ℕ → Job
job_of count job = job_for (wish_of count job) count job

unfoldable pub study_use : List ℕ
study_use =
    ascii "usage: icustudy make STUDY TEXT ...   makes a study file of the junctions in the texts\n"
    ++ ascii "       icustudy show STUDY SITE       prints a site of a study file as text, sites from 1\n"
    ++ ascii "       icustudy convert STUDY NEW     writes a study of before (ICUS) as one of today (ICUT)\n"
    ++ ascii "       icustudy point                 prints a text to begin a single point interchange with\n"

-- what is given at once, where nothing is to be made, shown or converted
unfoldable pub told_of : Job → Outcome
told_of Make = saying []
told_of Show = saying []
told_of Convert = saying []
told_of Point = printing (junction_text start_entries)
told_of TooMany = saying (ascii "a study holds at most 165 junctions\n")
told_of Use = saying study_use
told_of Help = printing study_use
told_of Version = printing version_text

-- the text of the site that a word names
unfoldable pub show_at : List ℕ → List ℕ → List ℕ → Outcome
show_at name word file = with_site (sought file word) name word (λ site. printing (junction_text (site_entries file site)))

-- the words: the job, a study, a site
unfoldable pub show_run : Input → List ℕ → List ℕ → Outcome
show_run input words area = with_file input (word_at words 1) area (show_at (word_at words 1) (word_at words 2))
