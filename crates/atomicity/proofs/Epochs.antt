-- A step's epoch: 1 and its thread's RELEASE steps before it. It is what the machine stamps an access with.
use Prim.Native.Nat.{ℕ, suc, ◌<◌, ◌≤◌, ◌+◌}
use mathlib.Core.Path.{◌≡◌, ◌∙◌}
use mathlib.Core.Bool.{Bool, true, false, cond, ◌&&◌, and-false}
use mathlib.Core.List.{List, [], ◌∷◌, ◌++◌}
use mathlib.Core.Logic.{◌≢◌}
use native.Mathlib.Omega.{arith}
use lib.Dec.{eqb}
use lib.ListN.{length, take}
use lib.Seq.{take-append-le, take-append_seam}
use borrow.Author.Tests.{eq-eqb, ne_eqb}
use Rattle.atomicity.specs.History.{Fed, step_at}
use Rattle.atomicity.proofs.Ordered.{and_then, step_stays, step-next}

-- an accepted RELEASE (6) of the thread
abbrev pub is_release_by : Fed → ℕ → Bool
is_release_by step thread = step.accepted && eqb step.kind 6 && eqb step.thread thread

-- how many RELEASE steps of a thread were accepted
unfoldable pub releases : List Fed → ℕ → ℕ
releases [] thread = 0
releases (step ∷ steps) thread = cond (is_release_by step thread) 1 0 + releases steps thread

-- the epoch of the step at a place: 1 and the RELEASE steps that its thread took before it
abbrev pub epoch_at : List Fed → ℕ → ℕ
epoch_at history place = suc (releases (take place history) (step_at history place).thread)

releases-next : (history : List Fed) (next : Fed) (thread : ℕ) →
    releases (and_then history next) thread ≡ releases history thread + cond (is_release_by next thread) 1 0
unfolding releases
releases-next [] next thread = omega arith
releases-next (step ∷ history) next thread = omega (arith, releases-next history next thread)

module _ (history : List Fed) (next : Fed) (thread : ℕ) where
  releases-stay : is_release_by next thread ≡ false → releases (and_then history next) thread ≡ releases history thread
  releases-stay is_none = releases-next history next thread ∙ rw is_none (omega arith)

  -- a refused step, a step of another kind and a step of another thread leave the number of a thread's RELEASE steps as it is
  pub releases-refused : next.accepted ≡ false → releases (and_then history next) thread ≡ releases history thread
  releases-refused is_refused = releases-stay (rw is_refused)

  pub releases-kind : next.kind ≢ 6 → releases (and_then history next) thread ≡ releases history thread
  releases-kind is_other = releases-stay (rw (ne_eqb next.kind 6 is_other, and-false))

  pub releases-thread : next.thread ≢ thread → releases (and_then history next) thread ≡ releases history thread
  releases-thread is_other = releases-stay (rw (ne_eqb next.thread thread is_other, and-false))

  -- an accepted RELEASE of the thread adds one to the number of its RELEASE steps
  pub releases-more : next.accepted ≡ true → next.kind ≡ 6 → next.thread ≡ thread →
      releases (and_then history next) thread ≡ suc (releases history thread)
  releases-more is_accepted is_release is_thread =
      releases-next history next thread ∙
      rw (is_accepted, eq-eqb next.kind 6 is_release, eq-eqb next.thread thread is_thread) (omega arith)

  -- the number of a thread's RELEASE steps never falls
  pub releases-grow : releases history thread ≤ releases (and_then history next) thread
  releases-grow = omega (arith, releases-next history next thread)

-- epochs stay when more steps come
pub epoch_stays : (history more : List Fed) (place : ℕ) → place < length history → epoch_at (history ++ more) place ≡ epoch_at history place
epoch_stays history more place inside = rw (step_stays history more place inside, take-append-le place history more (omega arith))

-- the epoch of the step that comes next
pub epoch_next : (history : List Fed) (next : Fed) → epoch_at (and_then history next) (length history) ≡ suc (releases history next.thread)
epoch_next history next = rw (step-next history next, take-append_seam)
