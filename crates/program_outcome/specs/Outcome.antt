-- What one run of a program gives: three texts, functions of the bytes of its arguments and of the files that it read.
use Rattle.std.specs.Prelude.{ℕ, ◌≡◌, ◌<◌, Bool, ◌||◌, List, [], ◌++◌, length, take, eqb, Option, Some, None, Result, Ok, Err, IfOk, IfErr}
use Rattle.text.specs.Text.{ascii, Placed}
use Rattle.program_outcome.specs.declared.Remark.{Remark}
use Rattle.program_outcome.specs.declared.Remark.TheVariants.{Unread, Unwritten, NoName, NoEntry, IsStudy, WantsText}
use Rattle.program_outcome.specs.declared.Remark.TheVariants.{InTheWay, Stays, IsLink, NoInput, NoOutput}
use Rattle.program_outcome.specs.declared.Lengths.{Lengths}

-- what goes to standard output, to a file, and to standard error; a file is written where there is something for it
pub record Outcome : Type 0 where
  pub prints : List ℕ
  pub writes : List ℕ
  pub says : List ℕ

abbrev pub printing : List ℕ → Outcome
printing text = record { prints = text; writes = []; says = [] }

abbrev pub writing : List ℕ → Outcome
writing bytes = record { prints = []; writes = bytes; says = [] }

abbrev pub saying : List ℕ → Outcome
saying text = record { prints = []; writes = []; says = text }

-- a number of arguments that is one of two
abbrev pub is_either : ℕ → ℕ → ℕ → Bool
is_either number one other = eqb number one || eqb number other

-- the bytes of an argument that are shown: all, since none that is longer is taken
abbrev pub word_most : ℕ
word_most = 4_096

-- an argument, a colon and what is said of it
unfoldable pub opening : List ℕ → List ℕ
opening word = take word_most word ++ ascii ": "

unfoldable pub named : List ℕ → List ℕ → List ℕ
named word what = opening word ++ what

-- a row for each sentence that is said of an argument, or of the program itself
unfoldable pub remark_text : Remark → List ℕ
remark_text Unread = ascii "cannot be read\n"
remark_text Unwritten = ascii "cannot be written\n"
remark_text NoName = ascii "no movement, no approach and not the junction has this name\n"
remark_text NoEntry = ascii "no entry has this name there\n"
remark_text IsStudy = ascii "this is a study file: add a site, counted from 1, or all\n"
remark_text WantsText = ascii "this is a study file: name a junction's text, as icustudy show prints one\n"
remark_text InTheWay = ascii "there is such a file and it is no study file, so it stays as it is: name another\n"
remark_text Stays = ascii "stays as it was, since not all that was asked for was done: name a new file\n"
remark_text IsLink = ascii "this is a symbolic link, which stays as it is: name its file\n"
remark_text NoInput = ascii "standard input cannot be read\n"
remark_text NoOutput = ascii "standard output cannot be written\n"

abbrev pub remarked : List ℕ → Remark → List ℕ
remarked word remark = named word (remark_text remark)

-- how many bytes of a file were read into an area; none, where it could not be read
abbrev pub Input : Type 0
Input = Option ℕ

-- what is done with the bytes of the file that an argument names, if it could be read into an area
abbrev pub with_file : Input → List ℕ → List ℕ → (List ℕ → Outcome) → Outcome
with_file (Some size) name area run = run (take size area)
with_file None name area run = saying (remarked name Unread)

-- what is printed and what is said, at the front of two areas whose other bytes stay, and how long each of the three texts is
pub record Left (run : Outcome) (printed said printed' said' : List ℕ) (lengths : Lengths) : Type 0 where
  pub prints : Placed printed 0 run.prints printed' lengths.prints
  pub writes : lengths.writes ≡ length run.writes
  pub says : Placed said 0 run.says said' lengths.says

-- how many bytes a step says, whose error that is
abbrev pub bytes_said : {T : Type 0} → Result T ℕ → ℕ
bytes_said (Ok value) = 0
bytes_said (Err size) = size

-- a step stops where a text is said, and its error is how many bytes that has; where there is nothing to say, what it gives is good
pub record Tells {T : Type 0} (text said said' : List ℕ) (Good : T → Type 0) (result : Result T ℕ) : Type 0 where
  pub says : Placed said 0 text said' (bytes_said result)
  pub some : IfErr result (λ size. 0 < size)
  pub good : IfOk result Good
