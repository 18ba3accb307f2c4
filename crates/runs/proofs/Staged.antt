-- A payload byte of a run.
use Prim.Native.Nat.{ℕ, ◌+◌, ◌≤◌, ◌<◌}
use mathlib.Core.List.{List}
use mathlib.Core.Path.{◌≡◌}
use borrow.Author.Tests.{le-ltb, lt-ltb}
use lib.ListN.{get_or, length, set}
use Rattle.sheet.specs.Edition.{Edition}
use Rattle.printer.specs.declared.Load.{Load}
use Rattle.printer.specs.declared.Printer.{Printer}
use Rattle.printer.specs.Bytes.{act, loaded, payload_byte, step}
use Rattle.printer.specs.Given.{machine}
use Rattle.printer.specs.Machine.{Machine, limit}
use Rattle.runs.specs.Runs.{goes_on, loading, running}
use Rattle.runs.proofs.Running.{Runs, runs_on, runs_out}

module _ (e : Edition) (place : ℕ) (p : Printer) (font piece page line store : List ℕ) where
  abbrev at_work : Load → ℕ → List ℕ → Machine
  at_work l job staging = machine (loading place l job p) page line staging store

  module _ {m : Machine} {k : ℕ} (l : Load) (job : ℕ) (staging : List ℕ) (h : Runs e font piece k m (at_work l job staging)) (i : k < length piece) where
    -- one payload byte more
    pub staged_on : {l' : Load} {after : List ℕ} → job < limit → l.taken < l.count → after ≡ set staging l.taken (get_or piece k 0)
        → l' ≡ loaded l (get_or piece k 0) → Runs e font piece (k + 1) m (at_work l' (job + 1) after)
    unfolding step act payload_byte goes_on
    staged_on room t a q =
        runs_on h i room (lt-ltb l.taken l.count t) _ (simp (a, q, lt-ltb l.taken l.count t))

    -- a download that lacks none ends the run
    pub staged_out : l.count ≤ l.taken → running e font piece m ≡ record { taken = k; machine = at_work l job staging }
    unfolding goes_on
    staged_out t = runs_out h i (le-ltb l.taken l.count t)
