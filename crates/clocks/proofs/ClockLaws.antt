-- A clock's numbers after a join and a raise, and the clocks at the start.
use Prim.Native.Nat.{ℕ, ◌<◌, ◌+◌, max}
use mathlib.Core.Path.{◌≡◌}
use mathlib.Core.Logic.{◌≢◌}
use native.Mathlib.Omega.{arith}
use lib.ListN.{get_or}
use Rattle.std.proofs.lemmas.Bool.Decides.{nat_tests}
use Rattle.std.proofs.lemmas.Grind.{common_steps}
use Rattle.sizes.specs.Sizes.{thread_count}
use Rattle.clocks.specs.Clocks.{no_clock, start_clocks, clock_at, join_of, raised_of, largest, raise_of}
use Rattle.clocks.specs.declared.Clock.{Clock}

-- a join's numbers are the larger ones
pub clock_at-join : (one other : Clock) (thread : ℕ) → clock_at (join_of one other) thread ≡ max (clock_at one thread) (clock_at other thread)
unfolding clock_at join_of
clock_at-join one other thread = grind (arith, nat_tests)

-- a raise leaves the other threads' numbers as they are, and adds one to the thread's own
pub clock_at-raised-other : (clock : Clock) (thread other : ℕ) → other ≢ thread →
    clock_at (raised_of clock thread) other ≡ clock_at clock other
unfolding clock_at raised_of
clock_at-raised-other clock thread other differs = grind (arith, nat_tests)

pub clock_at-raised-own : (clock : Clock) (thread : ℕ) → thread < thread_count →
    clock_at (raised_of clock thread) thread ≡ clock_at clock thread + 1
unfolding clock_at raised_of
clock_at-raised-own clock thread in_range = grind (arith, nat_tests)

-- where the thread's number can grow, RELEASE on any clock adds one to it
pub raise_grows : (clock : Clock) (thread : ℕ) → clock_at clock thread < largest → raise_of clock thread ≡ raised_of clock thread
unfolding clock_at raise_of raised_of
raise_grows clock thread can_grow = grind (arith, nat_tests)

-- all numbers of the empty clock are 0
pub clock_at-none : (thread : ℕ) → clock_at no_clock thread ≡ 0
unfolding clock_at
clock_at-none thread = grind (arith, nat_tests)

-- a thread starts with its own number raised once
pub start-raised : (thread : ℕ) → thread < thread_count → get_or start_clocks thread no_clock ≡ raised_of no_clock thread
unfolding raised_of
start-raised thread in_range = grind (arith, common_steps)
