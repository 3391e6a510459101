-- "A clock is four numbers, one for each thread." A thread's own number is 1 and its RELEASE steps so far.
use Rattle.std.specs.Prelude.{ℕ, ◌+◌, max, Bool, cond, List, [], ◌∷◌, eqb, ltb, leb}
use Rattle.clocks.specs.declared.Clock.{Clock}

-- what stands at a number past the end of an array of clocks: never read by a step whose fields are in range
abbrev pub no_clock : Clock
no_clock = record { t0 = 0; t1 = 0; t2 = 0; t3 = 0 }

-- no step was taken: a thread's own number is 1
abbrev pub start_clocks : List Clock
start_clocks =
    record { t0 = 1; t1 = 0; t2 = 0; t3 = 0 } ∷
    record { t0 = 0; t1 = 1; t2 = 0; t3 = 0 } ∷
    record { t0 = 0; t1 = 0; t2 = 1; t3 = 0 } ∷
    record { t0 = 0; t1 = 0; t2 = 0; t3 = 1 } ∷ []

-- a clock's number for a thread
unfoldable pub clock_at : Clock → ℕ → ℕ
clock_at clock thread =
    cond (eqb thread 0) clock.t0
    (cond (eqb thread 1) clock.t1 (cond (eqb thread 2) clock.t2 (cond (eqb thread 3) clock.t3 0)))

-- ACQUIRE: the thread knows what it and the lock's last RELEASE knew
unfoldable pub join_of : Clock → Clock → Clock
join_of a b = record {
  t0 = max a.t0 b.t0;
  t1 = max a.t1 b.t1;
  t2 = max a.t2 b.t2;
  t3 = max a.t3 b.t3;
}

-- RELEASE: one more for the thread that took it
unfoldable pub raised_of : Clock → ℕ → Clock
raised_of clock thread = record {
  t0 = cond (eqb thread 0) (clock.t0 + 1) clock.t0;
  t1 = cond (eqb thread 1) (clock.t1 + 1) clock.t1;
  t2 = cond (eqb thread 2) (clock.t2 + 1) clock.t2;
  t3 = cond (eqb thread 3) (clock.t3 + 1) clock.t3;
}

-- the largest number of 32 bits, which a clock's numbers stand in
abbrev pub largest : ℕ
largest = 4294967295

-- a number plus 1, or the number itself where it is the largest
abbrev pub one_more : ℕ → ℕ
one_more number = cond (ltb number largest) (number + 1) number

-- RELEASE on any clock: a number that cannot grow stays. (None gets there by steps: each RELEASE takes one of a thread's 1,000,000 ranks.)
unfoldable pub raise_of : Clock → ℕ → Clock
raise_of clock thread = record {
  t0 = cond (eqb thread 0) (one_more clock.t0) clock.t0;
  t1 = cond (eqb thread 1) (one_more clock.t1) clock.t1;
  t2 = cond (eqb thread 2) (one_more clock.t2) clock.t2;
  t3 = cond (eqb thread 3) (one_more clock.t3) clock.t3;
}

-- the clock knows of the access with this stamp by this thread
abbrev pub is_known : Clock → ℕ → ℕ → Bool
is_known clock stamp thread = leb stamp (clock_at clock thread)
