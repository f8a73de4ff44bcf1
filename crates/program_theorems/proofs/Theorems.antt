-- The theorems of the programs. Each program reads, makes the calls below and writes what they leave: of each call, it keeps its
-- promise, as the check proved it of its code; its promise is the definition of what the program gives, word for word; and any two
-- outcomes that it allows agree. What is left without a promise is input and output alone.
use mathlib.Core.Path.{◌≡◌, refl, sym, ap, ◌∙◌}
use mathlib.Core.Bool.{true}
use mathlib.Core.List.{List, []}
use Prim.Native.Nat.{ℕ, ◌*◌, ◌≤◌, ◌<◌}
use lib.ListN.{length, take}
use contract.Lifetimes.{Lfts}
use contract.Notation.{connectives}
use denote.Triple.Clauses.{AtExit}
use borrow.Fn.World.{World, ArgsD, ResD, Pr}
use native.Mathlib.Omega.{arith}
use Rattle.std.specs.Prelude.{Some, ⊤, Result, Ok, Err, IfErr}
use Rattle.layout.specs.declared.Worksheet.{Worksheet}
use Rattle.layout.specs.Entries.{entry_count}
use Rattle.layout.specs.Open.{place_count, blocks_count}
use Rattle.answers.specs.declared.Answer.TheVariants.{Accepted}
use Rattle.lists.specs.Lists.{AllBelow, over}
use Rattle.study_numbers.specs.Numbers.{number_limit, byte_limit}
use Rattle.study.specs.Study.{site_limit, icut, is_old, format_of, judgement, count_of, site_answer, entries_up_to, file_of, converted}
use Rattle.study_changed.specs.Changed.{with_entries}
use Rattle.study_changed.proofs.Written.{changed_study as study_changed}
use Rattle.text.specs.Text.{Placed}
use Rattle.program_words.specs.Words.{word_at}
use Rattle.program_outcome.specs.declared.Call.{Call}
use Rattle.program_outcome.specs.declared.Lengths.{Lengths}
use Rattle.program_outcome.specs.Outcome.{Outcome, writing, Left, Tells, bytes_said}
use Rattle.program_sheet.specs.Run.{asks_all, sheet_run, pages_of, page_at}
use Rattle.program_sheet.specs.Whole.{pages_up_to, sheet_whole}
use Rattle.program_sheet.proofs.Whole.{all_pages as pages_whole}
use Rattle.program_amend.specs.Run.{amend_study, amend_run}
use Rattle.program_amend.proofs.Laws.{old_unwritten}
use Rattle.program_convert.specs.Run.{convert_of, convert_run}
use Rattle.program_convert.proofs.Laws.{few_written}
use Rattle.program_office.specs.Run.{start_run, told_of as office_told}
use Rattle.open_file.specs.File.{is_open, owners_in, blocks_in, open_file}
use Rattle.open_file.proofs.RoundTrip as opened
use Rattle.program_study.specs.Run.{told_of, show_run}
use Rattle.program_make.specs.Make.{text_says, text_adds, study_of}
use Rattle.program_make.specs.Steps.{Typed, made, steps, finished}
use Rattle.program_make.proofs.Made.{made_of_texts as texts_made}
use Rattle.program_list.specs.Run.{list_run}
use Rattle.program_target.specs.Target.{target_text}
use Rattle.program_diamond.specs.Run.{diamond_run}
use Rattle.program_open_add.specs.Run.{open_add_run}
use Rattle.program_open_amend.specs.Run.{open_amend_run}
use Rattle.program_open_read.specs.Run.{open_read_run}
use Rattle.program_sheet.specs.contracts.run as sheet
use Rattle.program_sheet.proofs.run.Statement as sheet_stated
use Rattle.program_sheet.proofs.run.Reads as sheet_reads
use Rattle.program_sheet.proofs.run.Met as sheet_met
use Rattle.program_sheet.specs.contracts.pages as pages
use Rattle.program_sheet.proofs.pages.Statement as pages_stated
use Rattle.program_sheet.proofs.pages.Reads as pages_reads
use Rattle.program_sheet.proofs.pages.Met as pages_met
use Rattle.program_sheet.specs.contracts.page as page
use Rattle.program_sheet.proofs.page.Statement as page_stated
use Rattle.program_sheet.proofs.page.Reads as page_reads
use Rattle.program_sheet.proofs.page.Met as page_met
use Rattle.program_amend.specs.contracts.run as amend
use Rattle.program_amend.proofs.run.Statement as amend_stated
use Rattle.program_amend.proofs.run.Reads as amend_reads
use Rattle.program_amend.proofs.run.Met as amend_met
use Rattle.program_study.specs.contracts.tell as tell
use Rattle.program_study.proofs.tell.Statement as tell_stated
use Rattle.program_study.proofs.tell.Reads as tell_reads
use Rattle.program_study.proofs.tell.Met as tell_met
use Rattle.program_study.specs.contracts.show as show
use Rattle.program_study.proofs.show.Statement as show_stated
use Rattle.program_study.proofs.show.Reads as show_reads
use Rattle.program_study.proofs.show.Met as show_met
use Rattle.program_make.specs.contracts.add as add
use Rattle.program_make.proofs.add.Statement as add_stated
use Rattle.program_make.proofs.add.Reads as add_reads
use Rattle.program_make.proofs.add.Met as add_met
use Rattle.program_make.specs.contracts.make as make
use Rattle.program_make.proofs.make.Statement as make_stated
use Rattle.program_make.proofs.make.Reads as make_reads
use Rattle.program_make.proofs.make.Met as make_met
use Rattle.program_convert.specs.contracts.run as convert
use Rattle.program_convert.proofs.run.Statement as convert_stated
use Rattle.program_convert.proofs.run.Reads as convert_reads
use Rattle.program_convert.proofs.run.Met as convert_met
use Rattle.program_list.specs.contracts.run as list
use Rattle.program_list.proofs.run.Statement as list_stated
use Rattle.program_list.proofs.run.Reads as list_reads
use Rattle.program_list.proofs.run.Met as list_met
use Rattle.program_diamond.specs.contracts.run as diamond
use Rattle.program_diamond.proofs.run.Statement as diamond_stated
use Rattle.program_diamond.proofs.run.Reads as diamond_reads
use Rattle.program_diamond.proofs.run.Met as diamond_met
use Rattle.program_open_add.specs.contracts.run as open_add
use Rattle.program_open_add.proofs.run.Statement as open_add_stated
use Rattle.program_open_add.proofs.run.Reads as open_add_reads
use Rattle.program_open_add.proofs.run.Met as open_add_met
use Rattle.program_open_amend.specs.contracts.run as open_amend
use Rattle.program_open_amend.proofs.run.Statement as open_amend_stated
use Rattle.program_open_amend.proofs.run.Reads as open_amend_reads
use Rattle.program_open_amend.proofs.run.Met as open_amend_met
use Rattle.program_open_read.specs.contracts.run as open_read
use Rattle.program_open_read.proofs.run.Statement as open_read_stated
use Rattle.program_open_read.proofs.run.Reads as open_read_reads
use Rattle.program_open_read.proofs.run.Met as open_read_met
use Rattle.program_target.specs.contracts.judge as target
use Rattle.program_target.proofs.judge.Statement as target_stated
use Rattle.program_target.proofs.judge.Reads as target_reads
use Rattle.program_target.proofs.judge.Met as target_met
use Rattle.program_office.specs.contracts.tell as open_tell
use Rattle.program_office.proofs.tell.Statement as open_tell_stated
use Rattle.program_office.proofs.tell.Reads as open_tell_reads
use Rattle.program_office.proofs.tell.Met as open_tell_met
use Rattle.program_office.specs.contracts.start as open_start
use Rattle.program_office.proofs.start.Statement as open_start_stated
use Rattle.program_office.proofs.start.Reads as open_start_reads
use Rattle.program_office.proofs.start.Met as open_start_met

-- ANY TWO OUTCOMES of what is put at the front of an area agree, and so do those of a program's three texts.
pub placed_agree :
    {before part one other : List ℕ} {at past end : ℕ} → Placed before at part one past → Placed before at part other end
    → (one ≡ other) × (past ≡ end)
placed_agree p q = (p.is ∙ sym q.is, p.next ∙ sym q.next)

pub record Same (printed said printed' said' : List ℕ) (one other : Lengths) : Type 0 where
  pub prints : printed ≡ printed'
  pub says : said ≡ said'
  pub lengths : (one.prints ≡ other.prints) × (one.writes ≡ other.writes) × (one.says ≡ other.says)

pub left_agree :
    (run : Outcome) {printed said p p' s s' : List ℕ} {one other : Lengths}
    → Left run printed said p s one → Left run printed said p' s' other → Same p s p' s' one other
left_agree run l m =
    let prints = placed_agree l.prints m.prints in
    let says = placed_agree l.says m.says in
    record { prints = prints.0; says = says.0; lengths = (prints.1, l.writes ∙ sym m.writes, says.1) }

-- So do those of a step that stops where a text is said: what it leaves in the area, and whether it stops, by how many bytes.
pub tells_agree :
    {text said one other : List ℕ} {r r' : Result ⊤ ℕ} → Tells text said one (λ _. ⊤) r → Tells text said other (λ _. ⊤) r'
    → (one ≡ other) × (r ≡ r')
tells_agree {r = r} {r' = r'} t t' =
    let both = placed_agree t.says t'.says in
    (both.0, by r r' both.1 t.some t'.some)
  where
    by : (r r' : Result ⊤ ℕ) → bytes_said r ≡ bytes_said r' → IfErr r (λ size. 0 < size) → IfErr r' (λ size. 0 < size) → r ≡ r'
    by (Ok x) (Ok y) same some some' = refl
    by (Ok x) (Err size) same some some' = absurd (omega (arith, same, some'))
    by (Err size) (Ok y) same some some' = absurd (omega (arith, same, some))
    by (Err size) (Err size') same some some' = ap Err same

-- TEXT AFTER TEXT. `icustudy make` takes its texts one by one, the entries of each put after those before it: what is left at the
-- end is the study file of all their entries in order, or what is said of the first text that is not well.
pub made_of_texts :
    (all : List ℕ) (texts : List Typed) → length all ≡ entry_count * site_limit → length texts ≤ site_limit
    → finished (steps (record { all = all; sites = 0; says = [] }) texts) ≡ made [] texts
made_of_texts = texts_made

-- PAGE AFTER PAGE. Where all sites of a study are asked for, `icusheet` gives their pages in order, and nothing else.
pub all_pages :
    (k : Worksheet) (words area : List ℕ) (size : ℕ) → asks_all (word_at words 1) ≡ true → 0 < count_of (take size area)
    → let call : Call = record { worksheet = k; arguments = 3; input = Some size } in
    sheet_whole call words area ≡ pages_up_to call words area (count_of (take size area))
all_pages = pages_whole

-- THE STUDY THAT IS WRITTEN. What `icuamend` writes, entries over the block of a site that the file has, is the study file of all
-- sites' entries with those of the site replaced. Of a file of before it writes nothing.
pub changed_study :
    (file : List ℕ) (site : ℕ) (entries : List ℕ) → AllBelow byte_limit file → site_answer file site ≡ Accepted → format_of file ≡ icut
    → length entries ≡ entry_count
    → with_entries file site entries ≡ file_of (over (entries_up_to file (count_of file)) (entry_count * site) entries)
changed_study = study_changed

pub old_study_not_written : (k : Worksheet) (count : ℕ) (words file : List ℕ) → is_old file ≡ true → (amend_study k count words file).writes ≡ []
old_study_not_written = old_unwritten

-- THE STUDY THAT IS CONVERTED. What `icustudy convert` writes of a good file, of today or of before, that has no more sites than one of today
-- holds, is the file of today with its sites' entries: it keeps them and the listing (`converted_keeps` of the library's theorems).
pub converted_study : (name file : List ℕ) → judgement file ≡ Accepted → count_of file ≤ site_limit → convert_of name file ≡ writing (converted file)
converted_study = few_written

-- THE FILE OF AN OPEN STUDY. Owners and blocks that are written and read back are the same ..
pub open_written_and_read :
    (owners blocks : List ℕ) → length owners ≡ place_count → length blocks ≡ blocks_count → AllBelow number_limit owners → AllBelow number_limit blocks
    → (is_open (open_file owners blocks) ≡ true) × (owners_in (open_file owners blocks) ≡ owners) × (blocks_in (open_file owners blocks) ≡ blocks)
open_written_and_read owners blocks places numbers small low = (
  opened.written_is_open owners blocks places numbers,
  opened.owners_back owners blocks places numbers small,
  opened.blocks_back owners blocks places numbers low,
)

-- .. and a file that is one, read and written, is the same bytes.
pub open_read_and_written : (file : List ℕ) → AllBelow byte_limit file → is_open file ≡ true → open_file (owners_in file) (blocks_in file) ≡ file
open_read_and_written = opened.read_written

-- THE CALLS THEMSELVES. A clause of a promise says this fact and nothing else.
abbrev Exactly : (w : World) → Pr w → Type 0 → Type 2
Exactly w clause fact = clause ≡ (connectives w.𝓤).⌜◌⌝ fact

abbrev Both : (w : World) → Pr w → Type 0 → Type 0 → Type 2
Both w clause fact other = clause ≡ (connectives w.𝓤).◌∗◌ ((connectives w.𝓤).⌜◌⌝ fact) ((connectives w.𝓤).⌜◌⌝ other)

-- a: what the call is given, r: what it answers, s: what it leaves
pub sheet_keeps : {M : Type 1} → sheet_stated.statement M
sheet_keeps = sheet_met.met

pub sheet_promises :
    (κs : Lfts 4) (a : ArgsD sheet.signature κs) (r : ResD sheet.signature κs) (s : AtExit sheet.ended κs) (w : World)
    → Exactly w (sheet_reads.ensures κs a tt r s w)
    (Left (sheet_run a.0 a.1.0.now a.1.1.0.now) a.1.1.1.0.now a.1.1.1.1.0.now s.1.1.1.0.now
    s.1.1.1.1.0.now r)
sheet_promises κs a r s w = refl

pub pages_keeps : {M : Type 1} → pages_stated.statement M
pages_keeps = pages_met.met

pub pages_promises :
    (κs : Lfts 2) (a : ArgsD pages.signature κs) (r : ResD pages.signature κs) (s : AtExit pages.ended κs) (w : World)
    → Exactly w (pages_reads.ensures κs a tt r s w) (r ≡ pages_of a.0 a.1.0.now a.1.1.0.now)
pages_promises κs a r s w = refl

pub page_keeps : {M : Type 1} → page_stated.statement M
page_keeps = page_met.met

pub page_promises :
    (κs : Lfts 4) (a : ArgsD page.signature κs) (r : ResD page.signature κs) (s : AtExit page.ended κs) (w : World)
    → Exactly w (page_reads.ensures κs a tt r s w)
    (Left (page_at a.0 a.1.0.now a.1.1.0.now a.1.1.1.0) a.1.1.1.1.0.now a.1.1.1.1.1.0.now
    s.1.1.1.1.0.now s.1.1.1.1.1.0.now r)
page_promises κs a r s w = refl

pub amend_keeps : {M : Type 1} → amend_stated.statement M
amend_keeps = amend_met.met

pub amend_promises :
    (κs : Lfts 5) (a : ArgsD amend.signature κs) (r : ResD amend.signature κs) (s : AtExit amend.ended κs) (w : World)
    → let run = amend_run a.0 a.1.0.now a.1.1.0.now in
    Both w (amend_reads.ensures κs a tt r s w)
    (Left run a.1.1.1.0.now a.1.1.1.1.1.0.now s.1.1.1.0.now s.1.1.1.1.1.0.now r)
    (Placed a.1.1.1.1.0.now 0 run.writes s.1.1.1.1.0.now r.writes)
amend_promises κs a r s w = refl

pub tell_keeps : {M : Type 1} → tell_stated.statement M
tell_keeps = tell_met.met

pub tell_promises :
    (κs : Lfts 2) (a : ArgsD tell.signature κs) (r : ResD tell.signature κs) (s : AtExit tell.ended κs) (w : World)
    → Exactly w (tell_reads.ensures κs a tt r s w)
    (Left (told_of a.0) a.1.0.now a.1.1.0.now s.1.0.now s.1.1.0.now r)
tell_promises κs a r s w = refl

pub show_keeps : {M : Type 1} → show_stated.statement M
show_keeps = show_met.met

pub show_promises :
    (κs : Lfts 4) (a : ArgsD show.signature κs) (r : ResD show.signature κs) (s : AtExit show.ended κs) (w : World)
    → Exactly w (show_reads.ensures κs a tt r s w)
    (Left (show_run a.0 a.1.0.now a.1.1.0.now) a.1.1.1.0.now a.1.1.1.1.0.now s.1.1.1.0.now
    s.1.1.1.1.0.now r)
show_promises κs a r s w = refl

pub add_keeps : {M : Type 1} → add_stated.statement M
add_keeps = add_met.met

pub add_promises :
    (κs : Lfts 4) (a : ArgsD add.signature κs) (r : ResD add.signature κs) (s : AtExit add.ended κs) (w : World)
    → Both w (add_reads.ensures κs a tt r s w)
    (Tells (text_says a.1.0 a.0.now a.1.1.0.now) a.1.1.1.1.1.0.now s.1.1.1.1.1.0.now (λ _. ⊤) r)
    (s.1.1.1.1.0.now ≡ text_adds a.1.0 a.1.1.0.now a.1.1.1.0 a.1.1.1.1.0.now)
add_promises κs a r s w = refl

pub make_keeps : {M : Type 1} → make_stated.statement M
make_keeps = make_met.met

pub make_promises :
    (κs : Lfts 2) (a : ArgsD make.signature κs) (r : ResD make.signature κs) (s : AtExit make.ended κs) (w : World)
    → Exactly w (make_reads.ensures κs a tt r s w)
    (Placed a.1.1.0.now 0 (study_of a.0 a.1.0.now) s.1.1.0.now r)
make_promises κs a r s w = refl

pub convert_keeps : {M : Type 1} → convert_stated.statement M
convert_keeps = convert_met.met

pub convert_promises :
    (κs : Lfts 4) (a : ArgsD convert.signature κs) (r : ResD convert.signature κs) (s : AtExit convert.ended κs) (w : World)
    → let run = convert_run a.0 a.1.0.now a.1.1.0.now in
    Both w (convert_reads.ensures κs a tt r s w)
    (Left run [] a.1.1.1.1.0.now [] s.1.1.1.1.0.now r)
    (Placed a.1.1.1.0.now 0 run.writes s.1.1.1.0.now r.writes)
convert_promises κs a r s w = refl

pub list_keeps : {M : Type 1} → list_stated.statement M
list_keeps = list_met.met

pub list_promises :
    (κs : Lfts 4) (a : ArgsD list.signature κs) (r : ResD list.signature κs) (s : AtExit list.ended κs) (w : World)
    → Exactly w (list_reads.ensures κs a tt r s w)
    (Left (list_run a.0 a.1.0.now a.1.1.0.now) a.1.1.1.0.now a.1.1.1.1.0.now s.1.1.1.0.now
    s.1.1.1.1.0.now r)
list_promises κs a r s w = refl

pub target_keeps : {M : Type 1} → target_stated.statement M
target_keeps = target_met.met

pub target_promises :
    (κs : Lfts 3) (a : ArgsD target.signature κs) (r : ResD target.signature κs) (s : AtExit target.ended κs) (w : World)
    → Exactly w (target_reads.ensures κs a tt r s w)
    (Tells (target_text a.0 a.1.0.now a.1.1.0.now a.1.1.1.0) a.1.1.1.1.0.now s.1.1.1.1.0.now (λ _. ⊤) r)
target_promises κs a r s w = refl

pub diamond_keeps : {M : Type 1} → diamond_stated.statement M
diamond_keeps = diamond_met.met

pub diamond_promises :
    (κs : Lfts 5) (a : ArgsD diamond.signature κs) (r : ResD diamond.signature κs) (s : AtExit diamond.ended κs) (w : World)
    → Exactly w (diamond_reads.ensures κs a tt r s w)
    (Left (diamond_run a.0 a.1.0.now a.1.1.0.now a.1.1.1.0.now) a.1.1.1.1.0.now a.1.1.1.1.1.0.now
    s.1.1.1.1.0.now s.1.1.1.1.1.0.now r)
diamond_promises κs a r s w = refl

pub open_add_keeps : {M : Type 1} → open_add_stated.statement M
open_add_keeps = open_add_met.met

pub open_add_promises :
    (κs : Lfts 6) (a : ArgsD open_add.signature κs) (r : ResD open_add.signature κs) (s : AtExit open_add.ended κs) (w : World)
    → let run = open_add_run a.0 a.1.0.now a.1.1.0.now a.1.1.1.0.now in
    Both w (open_add_reads.ensures κs a tt r s w)
    (Left run a.1.1.1.1.0.now a.1.1.1.1.1.1.0.now s.1.1.1.1.0.now s.1.1.1.1.1.1.0.now r)
    (Placed a.1.1.1.1.1.0.now 0 run.writes s.1.1.1.1.1.0.now r.writes)
open_add_promises κs a r s w = refl

pub open_amend_keeps : {M : Type 1} → open_amend_stated.statement M
open_amend_keeps = open_amend_met.met

pub open_amend_promises :
    (κs : Lfts 5) (a : ArgsD open_amend.signature κs) (r : ResD open_amend.signature κs) (s : AtExit open_amend.ended κs) (w : World)
    → let run = open_amend_run a.0 a.1.0.now a.1.1.0.now in
    Both w (open_amend_reads.ensures κs a tt r s w)
    (Left run a.1.1.1.0.now a.1.1.1.1.1.0.now s.1.1.1.0.now s.1.1.1.1.1.0.now r)
    (Placed a.1.1.1.1.0.now 0 run.writes s.1.1.1.1.0.now r.writes)
open_amend_promises κs a r s w = refl

pub open_read_keeps : {M : Type 1} → open_read_stated.statement M
open_read_keeps = open_read_met.met

pub open_read_promises :
    (κs : Lfts 4) (a : ArgsD open_read.signature κs) (r : ResD open_read.signature κs) (s : AtExit open_read.ended κs) (w : World)
    → Exactly w (open_read_reads.ensures κs a tt r s w)
    (Left (open_read_run a.0 a.1.0.now a.1.1.0.now) a.1.1.1.0.now a.1.1.1.1.0.now s.1.1.1.0.now
    s.1.1.1.1.0.now r)
open_read_promises κs a r s w = refl

pub open_tell_keeps : {M : Type 1} → open_tell_stated.statement M
open_tell_keeps = open_tell_met.met

pub open_tell_promises :
    (κs : Lfts 2) (a : ArgsD open_tell.signature κs) (r : ResD open_tell.signature κs) (s : AtExit open_tell.ended κs) (w : World)
    → Exactly w (open_tell_reads.ensures κs a tt r s w)
    (Left (office_told a.0) a.1.0.now a.1.1.0.now s.1.0.now s.1.1.0.now r)
open_tell_promises κs a r s w = refl

pub open_start_keeps : {M : Type 1} → open_start_stated.statement M
open_start_keeps = open_start_met.met

pub open_start_promises :
    (κs : Lfts 3) (a : ArgsD open_start.signature κs) (r : ResD open_start.signature κs) (s : AtExit open_start.ended κs) (w : World)
    → let run = start_run a.0 a.1.0.now in
    Both w (open_start_reads.ensures κs a tt r s w)
    (Left run [] a.1.1.1.0.now [] s.1.1.1.0.now r)
    (Placed a.1.1.0.now 0 run.writes s.1.1.0.now r.writes)
open_start_promises κs a r s w = refl
