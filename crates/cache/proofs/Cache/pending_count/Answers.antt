-- `cache::Cache::pending_count` meets its contract: the thread's pending flushes stand one after the other.
use Prim.Native.Nat.{ℕ, ◌+◌, ◌*◌, ◌-◌, ◌<◌}
use native.Mathlib.Omega.{arith}
use mathlib.Core.Path.{◌≡◌, refl, sym, ap, ◌∙◌}
use mathlib.Core.Bool.{Bool, false}
use mathlib.Core.List.{List}
use lib.ListN.{length, get_or, take, drop, length-take, length-drop}
use borrow.Author.Rules.{rules}
use Rattle.std.proofs.lemmas.List.{get_or-drop, get_or-take}
use Rattle.answer.specs.Lists.{count_below}
use Rattle.answer.proofs.BelowLaws.{count_below-most, count_below-next, none-count_below}
use Rattle.cache.specs.declared.Cache.{Cache}
use Rattle.cache.specs.Cache.{line_count, is_pending}
use Rattle.cache.proofs.CacheLaws.{Sized, is_pending-out}
use Rattle.cache.proofs.Cache.pending_count.Goals as goal
use Rattle.cache.proofs.Cache.pending_count.Goals.{then-is_pending, else-is_pending}

module _ (cache : Cache) (thread : ℕ) where
  abbrev first : ℕ
  first = thread * line_count

  -- the thread's flushes
  abbrev flushes : List Bool
  flushes = take (first + line_count - first) (drop first cache.pending)

  here : (line : ℕ) → line < line_count → get_or flushes line false ≡ is_pending cache thread line
  here line within =
      get_or-take (first + line_count - first) (drop first cache.pending) line false (omega arith) ∙
      get_or-drop first cache.pending line false

  as_long : Sized cache → thread < 4 → length flushes ≡ line_count
  as_long sized is_thread = simp (length-take, length-drop) (omega (arith, sized.pending-long))

pub loop-is_pending-init : goal.loop-is_pending-init
unfolding count_below
loop-is_pending-init c = refl

pub overflow_add-count : goal.overflow_add-count
overflow_add-count c = let l = c.loop-is_pending in
    let a = c.args in
    omega (
      arith,
      as_long a.self a.thread (search rules) (omega arith),
      count_below-most l.is_pending-index (λ line. is_pending a.self a.thread line),
    )

pub loop-is_pending-preserved : goal.loop-is_pending-preserved
loop-is_pending-preserved c = let l = c.loop-is_pending in
    let a = c.args in
    let long = as_long a.self a.thread (search rules) (omega arith) in
    let within : l.is_pending-index < line_count = omega (arith, long) in
    let was = here a.self a.thread l.is_pending-index within in
    elim c.if-is_pending.branch [
      | then-is_pending w ↦
          let next = count_below-next l.is_pending-index (λ line. is_pending a.self a.thread line) (sym was ∙ w.if-is_pending.true) in
          omega arith
      | else-is_pending w ↦
          let next = count_below-next l.is_pending-index (λ line. is_pending a.self a.thread line) (sym was ∙ w.if-is_pending.false) in
          omega arith
    ]

pub returns-after-loop-is_pending : goal.returns-after-loop-is_pending
returns-after-loop-is_pending c = let l = c.loop-is_pending in
    let a = c.args in
    let long = as_long a.self a.thread (search rules) (omega arith) in
    let all : l.is_pending-index ≡ line_count = omega (arith, long) in
    l.invariant ∙ ap (λ (lines : ℕ). count_below lines (λ line. is_pending a.self a.thread line)) all

-- a thread that is out of range has no flush pending
pub returns-else-thread-lt-THREADS : goal.returns-else-thread-lt-THREADS
returns-else-thread-lt-THREADS c = let a = c.args in
    sym (none-count_below line_count (λ line. is_pending a.self a.thread line)
    (λ line within. is_pending-out a.self (search rules) a.thread line (omega arith)))
