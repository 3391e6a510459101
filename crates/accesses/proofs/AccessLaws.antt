-- The accesses of a cell: past the last cell none is there.
use Prim.Native.Nat.{ℕ, ◌≤◌}
use mathlib.Core.Path.{◌≡◌}
use mathlib.Core.Bool.{false, not}
use mathlib.Core.Logic.{by_cases}
use native.Mathlib.Decide.{dec_lt}
use native.Mathlib.Omega.{arith}
use lib.Dec.{ltb, leb, leb-zero}
use lib.ListN.{length, get_or, get_or-eq_default}
use borrow.Author.Tests.{lt-ltb, le-ltb, le-leb, lt-leb}
use Rattle.sizes.specs.Sizes.{thread_count}
use Rattle.answer.proofs.BelowLaws.{none-some_below}
use Rattle.clocks.specs.Clocks.{is_known}
use Rattle.accesses.specs.Accesses.{access_place, has_unknown}
use Rattle.accesses.specs.declared.Accesses.{Accesses}
use Rattle.clocks.specs.declared.Clock.{Clock}

-- one number is below another where that one is not at most the first
pub below_not : (a b : ℕ) → ltb a b ≡ not (leb b a)
below_not a b =
    by_cases
    (dec_lt a b)
    (λ less. rw (lt-ltb a b less, lt-leb b a less))
    (λ not_less. let most : b ≤ a = omega arith in rw (le-ltb a b most, le-leb b a most))

-- accesses of the machine's 128 cells by its four threads; every value of the struct is one
pub record Sized (accesses : Accesses) : Type 0 where
  pub stamps-long : length accesses.stamps ≡ 512
  pub logged-long : length accesses.logged ≡ 128
  pub loggers-long : length accesses.loggers ≡ 128

module _ (accesses : Accesses) (sized : Sized accesses) where
  -- no thread's access of a cell past the last one is unknown
  pub log-out : (clock : Clock) (cell : ℕ) → 128 ≤ cell → has_unknown accesses clock cell ≡ false
  log-out clock cell out =
      none-some_below
      thread_count
      (λ other. not (is_known clock (get_or accesses.stamps (access_place cell other) 0) other))
      (λ other is_thread.
      rw (
        get_or-eq_default accesses.stamps 0 {n = access_place cell other} (omega (arith, sized.stamps-long)),
        leb-zero,
      ))
