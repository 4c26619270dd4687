-- What is exported says what crate keshmirun's operation of the same name says: whatever a call of an export is known to leave, by its contract, the operation's
-- contract says of that call. So each law of keshmirun's `Exports` is one on the exports. Assumes nothing.
use mathlib.Core.List.{List}
use Prim.Native.Nat.{ℕ}
use contract.Lifetimes.{Lfts}
use denote.Triple.Clauses.{AtExit}
use borrow.Fn.Kinds.{ParamKind, ResultKind, Dens, res_t, ended_of, Out}
use Rattle.keshmirun.proofs.check.Reads as Check
use Rattle.keshmirun_c.proofs.check.Kinds as CheckKinds
use Rattle.keshmirun_c.proofs.check.Reads as CheckExport
use Rattle.keshmirun.proofs.start.Reads as Start
use Rattle.keshmirun_c.proofs.start.Kinds as StartKinds
use Rattle.keshmirun_c.proofs.start.Reads as StartExport
use Rattle.keshmirun.proofs.sheet.Reads as Sheet
use Rattle.keshmirun_c.proofs.sheet.Kinds as SheetKinds
use Rattle.keshmirun_c.proofs.sheet.Reads as SheetExport
use Rattle.keshmirun.proofs.pick.Reads as Pick
use Rattle.keshmirun_c.proofs.pick.Kinds as PickKinds
use Rattle.keshmirun_c.proofs.pick.Reads as PickExport
use Rattle.keshmirun.proofs.why.Reads as Why
use Rattle.keshmirun_c.proofs.why.Kinds as WhyKinds
use Rattle.keshmirun_c.proofs.why.Reads as WhyExport
use Rattle.keshmirun.proofs.step.Reads as Step
use Rattle.keshmirun_c.proofs.step.Kinds as StepKinds
use Rattle.keshmirun_c.proofs.step.Reads as StepExport
use Rattle.keshmirun.proofs.finish.Reads as Finish
use Rattle.keshmirun_c.proofs.finish.Kinds as FinishKinds
use Rattle.keshmirun_c.proofs.finish.Reads as FinishExport

-- what one contract says of a call, another says too
abbrev Says : (n : ℕ) (ps : List (ParamKind n)) (r : ResultKind n) (one other : Out n ps r) → Type 0
Says n ps r one other = (κs : Lfts n) (a : Dens κs ps) (word : (res_t r κs).Denot) (z : AtExit (ended_of n ps r) κs) → one κs a word z → other κs a word z

pub check_exported : Says 1 CheckKinds.ps CheckKinds.r CheckExport.Learnt Check.Learnt
check_exported κs a word z h = h

pub start_exported : Says 3 StartKinds.ps StartKinds.r StartExport.Learnt Start.Learnt
start_exported κs a word z h = h

pub sheet_exported : Says 5 SheetKinds.ps SheetKinds.r SheetExport.Learnt Sheet.Learnt
sheet_exported κs a word z h = h

pub pick_exported : Says 5 PickKinds.ps PickKinds.r PickExport.Learnt Pick.Learnt
pick_exported κs a word z h = h

pub why_exported : Says 5 WhyKinds.ps WhyKinds.r WhyExport.Learnt Why.Learnt
why_exported κs a word z h = h

pub step_exported : Says 6 StepKinds.ps StepKinds.r StepExport.Learnt Step.Learnt
step_exported κs a word z h = h

pub finish_exported : Says 4 FinishKinds.ps FinishKinds.r FinishExport.Learnt Finish.Learnt
finish_exported κs a word z h = h
