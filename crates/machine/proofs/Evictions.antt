-- EVICTCELL by the cell: one that is in range is evicted whatever the state, and one that is not is refused. And what is left of all
-- cells evicted one after the other.
use Rattle.std.specs.Prelude.{Err}
use Prim.Native.Nat.{ℕ, zero, suc, ◌≤◌, ◌<◌}
use native.Mathlib.Numerals.{add-one}
use native.Mathlib.Omega.{arith}
use mathlib.Core.Path.{◌≡◌, refl, sym, ap, ◌∙◌}
use mathlib.Core.List.{List}
use lib.ListN.{length}
use borrow.Author.Tests.{lt-ltb, le-ltb}
use Rattle.answer.specs.Lists.{tab}
use Rattle.answer.specs.Refusals.{unless}
use Rattle.answer.specs.declared.Refusal.TheVariants.{NoSuchPlace}
use Rattle.answer.proofs.ListLaws.{tab-last, partly, partly-write, partly-all}
use Rattle.cache.specs.Cache.{cell_count, cached_at, evict_cell_of}
use Rattle.cache.proofs.CacheLaws.{Sized, with_persisted}
use Rattle.kinds.specs.Kinds.{kind_of, input_tests}
use Rattle.machine.specs.Effects.{accepted, effect, evict_cell_effect}
use Rattle.machine.specs.Holds.{with_cache}
use Rattle.machine.specs.Refusals.{state_tests}
use Rattle.machine.specs.Runs.{Step, after, evict_all}
use Rattle.machine.specs.Steps.{refused, step_of_kind, step_of}
use Rattle.machine.specs.State.{Machine}
use Rattle.machine.specs.declared.Stepped.{Stepped}
use Rattle.machine.proofs.Reaching.{after_then}

module _ (machine : Machine) (cell : ℕ) where
  pub evict-cell-taken : cell < cell_count → step_of machine 13 0 cell 0 ≡ accepted 0 (with_cache machine (evict_cell_of machine.cache cell))
  unfolding step_of step_of_kind kind_of input_tests state_tests unless effect evict_cell_effect
  evict-cell-taken within = rw (lt-ltb cell cell_count within)

  pub evict-cell-refused : cell_count ≤ cell → step_of machine 13 0 cell 0 ≡ refused machine (Err NoSuchPlace)
  unfolding step_of step_of_kind kind_of input_tests state_tests unless effect evict_cell_effect
  evict-cell-refused past = rw (le-ltb cell cell_count past)

module _ (machine : Machine) (sized : Sized machine.cache) where
  abbrev cached : List ℕ
  cached = machine.cache.cached

  abbrev persisted : List ℕ
  persisted = machine.cache.persisted

  as_long : length cached ≡ length persisted
  as_long = sized.cached-long ∙ sym sized.persisted-long

  -- the machine whose cells below one are evicted
  abbrev evicted_below : ℕ → Machine
  evicted_below cell = with_cache machine (with_persisted machine.cache (partly cell cached persisted))

  cells_evicted : (count : ℕ) → count ≤ cell_count →
      after machine (tab count (λ cell. record { kind = 13; thread = 0; place = cell; value = 0 })) ≡ evicted_below count
  unfolding after tab evict_cell_of
  cells_evicted zero most = refl
  cells_evicted (suc count) most =
      (ap (after machine) (tab-last count evict_one) ∙ after_then machine (tab count evict_one) (evict_one count)) ∙
      (ap (λ (before : Machine). (step_of before 13 0 count 0).machine) (cells_evicted count (omega arith)) ∙
      (ap (λ (stepped : Stepped). stepped.machine) (evict-cell-taken (evicted_below count) count (omega arith)) ∙
      (ap (λ (kept : List ℕ). with_cache machine (with_persisted machine.cache kept))
      (partly-write cached persisted 0 as_long count (cached_at machine.cache count) (omega (arith, sized.persisted-long)) refl) ∙
      ap evicted_below (add-one count))))
    where
      evict_one : ℕ → Step
      evict_one cell = record { kind = 13; thread = 0; place = cell; value = 0 }

  -- every cell has its cached content persisted
  pub all-evicted : after machine evict_all ≡ with_cache machine (with_persisted machine.cache machine.cache.cached)
  unfolding evict_all
  all-evicted =
      cells_evicted cell_count (omega arith) ∙
      ap (λ (kept : List ℕ). with_cache machine (with_persisted machine.cache kept))
      (partly-all cached persisted 0 as_long cell_count (omega (arith, sized.persisted-long)))
