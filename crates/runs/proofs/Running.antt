-- A run under way, byte by byte: one byte more, and where it ends.
use Prim.Native.Nat.{ℕ, suc, ◌+◌, ◌-◌, ◌≤◌, ◌<◌}
use mathlib.Core.Bool.{Bool, true, false, cond, ◌&&◌}
use mathlib.Core.List.{List, [], ◌∷◌}
use mathlib.Core.Path.{◌≡◌, refl, ap, subst, sym, ◌∙◌}
use native.Mathlib.Decide.{dec_le}
use native.Mathlib.Numerals.{add-one}
use native.Mathlib.Omega.{arith}
use borrow.Author.Tests.{le-ltb, lt-ltb}
use lib.Dec.{T, ltb, ltb→lt}
use lib.ListN.{drop, drop_of_length-le, get_or, length, take}
use lib.Seq.{drop-cons}
use Rattle.std.proofs.Common.{length-take-le}
use Rattle.sheet.specs.Edition.{Edition}
use Rattle.printer.specs.declared.Load.{Load}
use Rattle.printer.specs.declared.Pending.{Pending}
use Rattle.printer.specs.declared.Pending.TheVariants.{Nothing, Escape, Tabs, Reset, Select, SelectLow, CountHigh, CountLow, AddressHigh}
use Rattle.printer.specs.declared.Pending.TheVariants.{AddressLow, Payload, Bracket}
use Rattle.printer.specs.declared.Printer.{Printer}
use Rattle.printer.specs.Bytes.{step}
use Rattle.printer.specs.Machine.{Machine, limit}
use Rattle.printer.specs.Steps.{quiet}
use Rattle.runs.specs.declared.Ran.{Ran}
use Rattle.runs.specs.Runs.{Run, fitting, given_run, goes_on, longer, no_run, running}

-- a run with n bytes more before it
abbrev further : ℕ → Run → Run
further n r = record { taken = n + r.taken; machine = r.machine }

abbrev with_taken : ℕ → Run → Run
with_taken n r = record { taken = n; machine = r.machine }

-- as many bytes of a piece as fit the job are no more than it has; if fewer, the job is full with them
pub record Fitting (job most : ℕ) (piece : List ℕ) : Type 0 where
  pub within : most ≤ length piece
  pub room : most ≤ limit - job
  pub full : most < length piece → limit ≤ job + most

pub fitting-most : (job : ℕ) (piece : List ℕ) → Fitting job (fitting job piece) piece
fitting-most job piece = by (dec_le (limit - job) (length piece))
  where
    by : Dec (limit - job ≤ length piece) → Fitting job (fitting job piece) piece
    by (yes s) = rw (le-ltb (length piece) (limit - job) s) (record { within = s; room = omega arith; full = λ l. omega arith })
    by (no s) = rw (lt-ltb (length piece) (limit - job) (omega arith)) (record { within = omega arith; room = omega arith; full = λ l. omega arith })

-- n bytes of a piece have led from m to another machine: what is left of the run goes on from there
pub record Runs (e : Edition) (font piece : List ℕ) (n : ℕ) (m after : Machine) : Type 0 where
  pub within : n ≤ length piece
  pub same : running e font piece m ≡ further n (running e font (drop n piece) after)

pub runs_nowhere : (e : Edition) (font piece : List ℕ) (m : Machine) → Runs e font piece 0 m m
runs_nowhere e font piece m =
    let r : Run = running e font piece m in
    let same : r.taken ≡ 0 + r.taken = omega arith in
    record { within = omega arith; same = ap (λ (n : ℕ). with_taken n r) same }

module _ {e : Edition} {font piece : List ℕ} {n : ℕ} {m a : Machine} (h : Runs e font piece n m a) where
  stops : running e font (drop n piece) a ≡ no_run a → running e font piece m ≡ record { taken = n; machine = a }
  stops q =
      let zero : n + 0 ≡ n = omega arith in
      h.same ∙ ap (further n) q ∙ ap (λ (k : ℕ). record { taken = k; machine = a }) zero

  -- where the piece ends
  pub runs_dry : length piece ≤ n → running e font piece m ≡ record { taken = n; machine = a }
  unfolding running
  runs_dry l = stops (simp (drop_of_length-le piece l))

  -- where the job is full
  pub runs_full : n < length piece → limit ≤ a.printer.job → running e font piece m ≡ record { taken = n; machine = a }
  unfolding running
  runs_full l full = stops (simp (drop-cons piece n 0 l, le-ltb a.printer.job limit full))

  -- once all bytes are taken that fit the job
  pub runs_over : (job : ℕ) → a.printer.job ≡ job + n → fitting job piece ≤ n → running e font piece m ≡ record { taken = n; machine = a }
  runs_over job counted all = by (dec_le (length piece) n)
    where
      by : Dec (length piece ≤ n) → running e font piece m ≡ record { taken = n; machine = a }
      by (yes l) = runs_dry l
      by (no l) = let most = fitting-most job piece in runs_full (omega arith) (omega (arith, most.full (omega arith)))

  module _ (l : n < length piece) where
    -- at a byte that does not go on
    pub runs_out : goes_on e (get_or piece n 0) a.printer.pending a.printer ≡ false → running e font piece m ≡ record { taken = n; machine = a }
    unfolding running
    runs_out q = stops (simp (drop-cons piece n 0 l, q, none (ltb a.printer.job limit)))
      where
        none : (t : Bool) → t && false ≡ false
        none true = refl
        none false = refl

    -- one byte more
    pub runs_on : a.printer.job < limit → goes_on e (get_or piece n 0) a.printer.pending a.printer ≡ true → (b : Machine)
        → step e font (get_or piece n 0) a ≡ quiet b → Runs e font piece (n + 1) m b
    unfolding running
    runs_on room q b is =
        let rest : Run = running e font (drop (n + 1) piece) b in
        let count : n + suc rest.taken ≡ n + 1 + rest.taken = omega arith in
        record {
          within = omega arith;
          same = h.same ∙ simp (drop-cons piece n 0 l, lt-ltb _ _ room, q, is, ← add-one n) (ap (λ (k : ℕ). with_taken k rest) count);
        }

-- k of the bytes that fit a job of job₀ bytes are taken, and each is counted into it
pub record Taken (n k job₀ job : ℕ) : Type 0 where
  pub within : k ≤ n
  pub counted : job ≡ job₀ + k

pub none_taken : (n job : ℕ) → Taken n 0 job job
none_taken n job = record { within = omega arith; counted = omega arith }

module _ {n k job₀ job : ℕ} (t : Taken n k job₀ job) (another : k < n) where
  pub one_more : Taken n (k + 1) job₀ (job + 1)
  one_more = record { within = omega arith; counted = omega (arith, t.counted) }

  module _ (piece : List ℕ) (most : n ≡ fitting job₀ piece) where
    -- there is a byte more, and the job has room for it
    pub another_byte : k < length piece
    another_byte = omega (arith, (fitting-most job₀ piece).within)

    pub room_for_it : job < limit
    room_for_it = omega (arith, (fitting-most job₀ piece).room, t.counted)

-- the bytes that fit the job, as a part of the piece
module _ {n : ℕ} (job₀ : ℕ) (piece : List ℕ) (most : n ≡ fitting job₀ piece) where
  pub part_length : length (take n piece) ≡ n
  part_length = length-take-le n piece (omega (arith, (fitting-most job₀ piece).within))

  pub in_part : {k : ℕ} → k < length (take n piece) → k < n
  in_part l = omega (arith, part_length)

  pub over_part : {k : ℕ} → length (take n piece) ≤ k → n ≤ k
  over_part l = omega (arith, part_length)

-- a command between its bytes goes on no run
pub half_command : (e : Edition) (b : ℕ) (p : Printer) (q : Pending) → (q ≡ Nothing → ⊥) → ((place : ℕ) (load : Load) → q ≡ Payload place load → ⊥)
    → goes_on e b q p ≡ false
unfolding goes_on
half_command e b p Nothing nothing payload = absurd (nothing refl)
half_command e b p (Payload place load) nothing payload = absurd (payload place load refl)
half_command e b p (Escape place) nothing payload = refl
half_command e b p (Tabs place) nothing payload = refl
half_command e b p (Reset place) nothing payload = refl
half_command e b p (Select place) nothing payload = refl
half_command e b p (SelectLow place high) nothing payload = refl
half_command e b p (CountHigh place) nothing payload = refl
half_command e b p (CountLow place high) nothing payload = refl
half_command e b p (AddressHigh place count) nothing payload = refl
half_command e b p (AddressLow place count high) nothing payload = refl
half_command e b p (Bracket place settings) nothing payload = refl

-- a run that comes back as r is the one that r is
pub comes_back : {r s : Ran} {page line staging store : List ℕ} {x : Run} → r ≡ s → x ≡ given_run s page line staging store
    → given_run r page line staging store ≡ x
comes_back e h = rw e (sym h)

-- a byte goes on only in a job that has room for it
pub room-taken : (e : Edition) (font : List ℕ) (b : ℕ) (m : Machine) (r : Run) → r ≡ running e font (b ∷ []) m → 1 ≤ r.taken
    → m.printer.job < limit
unfolding running
room-taken e font b m r is some = go _ _ _ refl (subst (λ (x : Run). 1 ≤ x.taken) is some)
  where
    go : (s t : Bool) (x : Run) → ltb m.printer.job limit ≡ s → 1 ≤ (cond (s && t) x (no_run m)).taken → m.printer.job < limit
    go true t x full h = ltb→lt _ _ (subst T (sym full) tt)
    go false t x full h = absurd (omega arith)

-- a run of no byte leads nowhere
pub stays_put : (e : Edition) (font : List ℕ) (b : ℕ) (m : Machine) (r : Run) → r ≡ running e font (b ∷ []) m → r.taken ≡ 0 → r.machine ≡ m
unfolding running
stays_put e font b m r is none =
    ap (λ (x : Run). x.machine) is
    ∙ go (ltb m.printer.job limit && goes_on e b m.printer.pending m.printer) (running e font [] (step e font b m).machine)
    (sym (ap (λ (x : Run). x.taken) is) ∙ none)
  where
    go : (t : Bool) (x : Run) → (cond t (longer x) (no_run m)).taken ≡ 0 → (cond t (longer x) (no_run m)).machine ≡ m
    go true x h = absurd (omega arith)
    go false x h = refl

module _ (e : Edition) (font piece : List ℕ) (m : Machine) where
  -- where no byte goes on, a piece begins with no run
  none_run : ((b : ℕ) → goes_on e b m.printer.pending m.printer ≡ false) → (bs : List ℕ) → running e font bs m ≡ no_run m
  unfolding running
  none_run none [] = refl
  none_run none (b ∷ bs) = runs_out (runs_nowhere e font (b ∷ bs) m) (omega arith) (none b)

  -- so it is while a command is pending of which no byte does
  pub between : {q : Pending} {r : Ran} → m.printer.pending ≡ q → ((b : ℕ) → goes_on e b q m.printer ≡ false)
      → r ≡ record { printer = m.printer; taken = 0 } → given_run r m.page m.line m.staging m.store ≡ running e font piece m
  between told none back = comes_back back (none_run (λ b. ap (λ (x : Pending). goes_on e b x m.printer) told ∙ none b) piece)
