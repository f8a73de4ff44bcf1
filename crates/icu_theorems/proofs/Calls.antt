-- The calls of the library themselves. Of each: it keeps its promise, as the check proved it of its code; and its promise is the
-- definition in crates/icu/specs/Calls.antt, word for word, so that a promise that said less would break this file.
use mathlib.Core.Path.{◌≡◌, refl}
use contract.Lifetimes.{Lfts}
use contract.Notation.{connectives}
use denote.Triple.Clauses.{AtExit}
use borrow.Fn.World.{World, ArgsD, ResD, Pr}
use Rattle.layout.specs.declared.Worksheet.TheVariants.{Junction, Point}
use Rattle.open_rules.specs.Open.{study}
use Rattle.icu.specs.Calls.{FillAllows, AmendAllows, StartAllows, CheckAllows, CountAllows, SiteAllows, WriteAllows, ListAllows, DiamondAllows}
use Rattle.icu.specs.Calls.{OpenAddAllows, OpenAmendAllows, OpenReadAllows}
use Rattle.icu.specs.contracts.icu_fill as fill
use Rattle.icu.proofs.icu_fill.Statement as fill_stated
use Rattle.icu.proofs.icu_fill.Reads as fill_reads
use Rattle.icu.proofs.icu_fill.Met as fill_met
use Rattle.icu.specs.contracts.icu_amend as amend
use Rattle.icu.proofs.icu_amend.Statement as amend_stated
use Rattle.icu.proofs.icu_amend.Reads as amend_reads
use Rattle.icu.proofs.icu_amend.Met as amend_met
use Rattle.icu.specs.contracts.icu_point_start as point_start
use Rattle.icu.proofs.icu_point_start.Statement as point_start_stated
use Rattle.icu.proofs.icu_point_start.Reads as point_start_reads
use Rattle.icu.proofs.icu_point_start.Met as point_start_met
use Rattle.icu.specs.contracts.icu_point_fill as point_fill
use Rattle.icu.proofs.icu_point_fill.Statement as point_fill_stated
use Rattle.icu.proofs.icu_point_fill.Reads as point_fill_reads
use Rattle.icu.proofs.icu_point_fill.Met as point_fill_met
use Rattle.icu.specs.contracts.icu_point_amend as point_amend
use Rattle.icu.proofs.icu_point_amend.Statement as point_amend_stated
use Rattle.icu.proofs.icu_point_amend.Reads as point_amend_reads
use Rattle.icu.proofs.icu_point_amend.Met as point_amend_met
use Rattle.icu.specs.contracts.icu_study_check as check
use Rattle.icu.proofs.icu_study_check.Statement as check_stated
use Rattle.icu.proofs.icu_study_check.Reads as check_reads
use Rattle.icu.proofs.icu_study_check.Met as check_met
use Rattle.icu.specs.contracts.icu_study_count as count
use Rattle.icu.proofs.icu_study_count.Statement as count_stated
use Rattle.icu.proofs.icu_study_count.Reads as count_reads
use Rattle.icu.proofs.icu_study_count.Met as count_met
use Rattle.icu.specs.contracts.icu_study_site as site
use Rattle.icu.proofs.icu_study_site.Statement as site_stated
use Rattle.icu.proofs.icu_study_site.Reads as site_reads
use Rattle.icu.proofs.icu_study_site.Met as site_met
use Rattle.icu.specs.contracts.icu_study_write as write
use Rattle.icu.proofs.icu_study_write.Statement as write_stated
use Rattle.icu.proofs.icu_study_write.Reads as write_reads
use Rattle.icu.proofs.icu_study_write.Met as write_met
use Rattle.icu.specs.contracts.icu_study_list as list
use Rattle.icu.proofs.icu_study_list.Statement as list_stated
use Rattle.icu.proofs.icu_study_list.Reads as list_reads
use Rattle.icu.proofs.icu_study_list.Met as list_met
use Rattle.icu.specs.contracts.icu_diamond as diamond
use Rattle.icu.proofs.icu_diamond.Statement as diamond_stated
use Rattle.icu.proofs.icu_diamond.Reads as diamond_reads
use Rattle.icu.proofs.icu_diamond.Met as diamond_met
use Rattle.icu.specs.contracts.icu_open_add as open_add
use Rattle.icu.proofs.icu_open_add.Statement as open_add_stated
use Rattle.icu.proofs.icu_open_add.Reads as open_add_reads
use Rattle.icu.proofs.icu_open_add.Met as open_add_met
use Rattle.icu.specs.contracts.icu_open_amend as open_amend
use Rattle.icu.proofs.icu_open_amend.Statement as open_amend_stated
use Rattle.icu.proofs.icu_open_amend.Reads as open_amend_reads
use Rattle.icu.proofs.icu_open_amend.Met as open_amend_met
use Rattle.icu.specs.contracts.icu_open_read as open_read
use Rattle.icu.proofs.icu_open_read.Statement as open_read_stated
use Rattle.icu.proofs.icu_open_read.Reads as open_read_reads
use Rattle.icu.proofs.icu_open_read.Met as open_read_met

-- a clause of a promise says this fact and nothing else
abbrev Exactly : (w : World) → Pr w → Type 0 → Type 2
Exactly w clause fact = clause ≡ (connectives w.𝓤).⌜◌⌝ fact

pub fill_keeps : {M : Type 1} → fill_stated.statement M
fill_keeps = fill_met.met

-- a: what the call is given, r: what it answers, s: what it leaves
pub fill_promises :
    (κs : Lfts 2) (a : ArgsD fill.signature κs) (r : ResD fill.signature κs) (s : AtExit fill.ended κs) (w : World)
    → Exactly w (fill_reads.ensures κs a tt r s w) (FillAllows Junction a.0.now a.1.0.now r s.1.0.now)
fill_promises κs a r s w = refl

pub amend_keeps : {M : Type 1} → amend_stated.statement M
amend_keeps = amend_met.met

pub amend_promises :
    (κs : Lfts 1) (a : ArgsD amend.signature κs) (r : ResD amend.signature κs) (s : AtExit amend.ended κs) (w : World)
    → Exactly w (amend_reads.ensures κs a tt r s w) (AmendAllows Junction a.0.now a.1.0 a.1.1.0 r s.0.now)
amend_promises κs a r s w = refl

pub point_start_keeps : {M : Type 1} → point_start_stated.statement M
point_start_keeps = point_start_met.met

pub point_start_promises :
    (κs : Lfts 1) (a : ArgsD point_start.signature κs) (r : ResD point_start.signature κs) (s : AtExit point_start.ended κs) (w : World)
    → Exactly w (point_start_reads.ensures κs a tt r s w) (StartAllows a.0.now r s.0.now)
point_start_promises κs a r s w = refl

pub point_fill_keeps : {M : Type 1} → point_fill_stated.statement M
point_fill_keeps = point_fill_met.met

pub point_fill_promises :
    (κs : Lfts 2) (a : ArgsD point_fill.signature κs) (r : ResD point_fill.signature κs) (s : AtExit point_fill.ended κs) (w : World)
    → Exactly w (point_fill_reads.ensures κs a tt r s w) (FillAllows Point a.0.now a.1.0.now r s.1.0.now)
point_fill_promises κs a r s w = refl

pub point_amend_keeps : {M : Type 1} → point_amend_stated.statement M
point_amend_keeps = point_amend_met.met

pub point_amend_promises :
    (κs : Lfts 1) (a : ArgsD point_amend.signature κs) (r : ResD point_amend.signature κs) (s : AtExit point_amend.ended κs) (w : World)
    → Exactly w (point_amend_reads.ensures κs a tt r s w) (AmendAllows Point a.0.now a.1.0 a.1.1.0 r s.0.now)
point_amend_promises κs a r s w = refl

pub check_keeps : {M : Type 1} → check_stated.statement M
check_keeps = check_met.met

pub check_promises :
    (κs : Lfts 1) (a : ArgsD check.signature κs) (r : ResD check.signature κs) (s : AtExit check.ended κs) (w : World)
    → Exactly w (check_reads.ensures κs a tt r s w) (CheckAllows a.0.now r)
check_promises κs a r s w = refl

pub count_keeps : {M : Type 1} → count_stated.statement M
count_keeps = count_met.met

pub count_promises :
    (κs : Lfts 1) (a : ArgsD count.signature κs) (r : ResD count.signature κs) (s : AtExit count.ended κs) (w : World)
    → Exactly w (count_reads.ensures κs a tt r s w) (CountAllows a.0.now r)
count_promises κs a r s w = refl

pub site_keeps : {M : Type 1} → site_stated.statement M
site_keeps = site_met.met

pub site_promises :
    (κs : Lfts 2) (a : ArgsD site.signature κs) (r : ResD site.signature κs) (s : AtExit site.ended κs) (w : World)
    → Exactly w (site_reads.ensures κs a tt r s w) (SiteAllows a.0.now a.1.0 a.1.1.0.now r s.1.1.0.now)
site_promises κs a r s w = refl

pub write_keeps : {M : Type 1} → write_stated.statement M
write_keeps = write_met.met

pub write_promises :
    (κs : Lfts 2) (a : ArgsD write.signature κs) (r : ResD write.signature κs) (s : AtExit write.ended κs) (w : World)
    → Exactly w (write_reads.ensures κs a tt r s w) (WriteAllows a.0.now a.1.0.now r s.1.0.now)
write_promises κs a r s w = refl

pub list_keeps : {M : Type 1} → list_stated.statement M
list_keeps = list_met.met

pub list_promises :
    (κs : Lfts 3) (a : ArgsD list.signature κs) (r : ResD list.signature κs) (s : AtExit list.ended κs) (w : World)
    → Exactly w (list_reads.ensures κs a tt r s w)
    (ListAllows a.0.now a.1.0.now a.1.1.0.now r s.1.0.now s.1.1.0.now)
list_promises κs a r s w = refl

pub diamond_keeps : {M : Type 1} → diamond_stated.statement M
diamond_keeps = diamond_met.met

pub diamond_promises :
    (κs : Lfts 2) (a : ArgsD diamond.signature κs) (r : ResD diamond.signature κs) (s : AtExit diamond.ended κs) (w : World)
    → Exactly w (diamond_reads.ensures κs a tt r s w) (DiamondAllows a.0.now a.1.0.now r s.1.0.now)
diamond_promises κs a r s w = refl

pub open_add_keeps : {M : Type 1} → open_add_stated.statement M
open_add_keeps = open_add_met.met

pub open_add_promises :
    (κs : Lfts 4) (a : ArgsD open_add.signature κs) (r : ResD open_add.signature κs) (s : AtExit open_add.ended κs) (w : World)
    → Exactly w (open_add_reads.ensures κs a tt r s w)
    (OpenAddAllows (study a.0.now a.1.0.now) a.1.1.0 a.1.1.1.0.now a.1.1.1.1.0.now
    r (study s.0.now s.1.0.now) s.1.1.1.1.0.now)
open_add_promises κs a r s w = refl

pub open_amend_keeps : {M : Type 1} → open_amend_stated.statement M
open_amend_keeps = open_amend_met.met

pub open_amend_promises :
    (κs : Lfts 2) (a : ArgsD open_amend.signature κs) (r : ResD open_amend.signature κs) (s : AtExit open_amend.ended κs) (w : World)
    → Exactly w (open_amend_reads.ensures κs a tt r s w)
    (OpenAmendAllows (study a.0.now a.1.0.now) a.1.1.0 a.1.1.1.0 a.1.1.1.1.0 a.1.1.1.1.1.0 r s.1.0.now)
open_amend_promises κs a r s w = refl

pub open_read_keeps : {M : Type 1} → open_read_stated.statement M
open_read_keeps = open_read_met.met

pub open_read_promises :
    (κs : Lfts 3) (a : ArgsD open_read.signature κs) (r : ResD open_read.signature κs) (s : AtExit open_read.ended κs) (w : World)
    → Exactly w (open_read_reads.ensures κs a tt r s w)
    (OpenReadAllows (study a.0.now a.1.0.now) a.1.1.0 a.1.1.1.0 a.1.1.1.1.0.now r s.1.1.1.1.0.now)
open_read_promises κs a r s w = refl
