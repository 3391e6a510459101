-- All choices at a cut recover to the same cells; so trying them all finds every one alike.
use Rattle.std.specs.Prelude.{Ok}
use Prim.Native.Nat.{ℕ}
use mathlib.Core.Path.{◌≡◌, refl, sym, ap, ap₂, ◌∙◌}
use mathlib.Core.List.{List, [], ◌++◌, flatten}
use native.Mathlib.Omega.{arith}
use lib.ListN.{length, take, replicate, length-replicate, length-map}
use lib.Seq.{take_all}
use Rattle.answer.specs.Lists.{tab, mix_from}
use Rattle.answer.specs.Refusals.{Outcome}
use Rattle.answer.specs.Answer.{Answer}
use Rattle.cache.specs.Cache.{cell_count, line_count, line_of}
use Rattle.reader.specs.Stretch.{image_words}
use Rattle.machine.specs.Image.{image_of, cut_of}
use Rattle.machine.specs.Runs.{Step, after, evict_all, Reached}
use Rattle.machine.specs.State.{Machine}
use Rattle.machine.proofs.Reaching.{after_append}
use Rattle.buffer.specs.Buffers.{written, place_after}
use Rattle.print.specs.Printed.{cut_line_text}
use Rattle.listing.specs.Transcript.{recovered_cells}
use Rattle.listing.proofs.Printing.{Put}
use Rattle.listing.proofs.RecoveredLaws.{cut_image, recovered_are}
use Rattle.recovery.specs.Recover.{recover_of}
use Rattle.recovery.proofs.MixLaws.{recover-mixes}
use Rattle.reference.specs.Reference.{cells_of}
use Rattle.atomicity.specs.History.{start_machine, book_after}
use Rattle.atomicity.proofs.Demand3Holds.{cut_recovers}
use Rattle.laws.specs.AnyEviction.{evictions}
use Rattle.laws.proofs.AnyEvictionHolds.{any_eviction}
use Rattle.choices.specs.Choices.{lowest_lines, choices_of}
use Rattle.choices.specs.Counting.{is_in, alike_choices}
use Rattle.choices.proofs.ChoiceLaws.{lowest-same}
use Rattle.choices.proofs.MixtureLaws.{all_found}
use Rattle.cuts.specs.Tried.{tried_lines, recovered_by, tried, AllAlike}
use Rattle.cuts.specs.Cuts.{not_zero, cut_text}
use Rattle.cuts.proofs.EvictedImage.{seen_image, lines-seen, seen-cells, kept-cells, same-logs, kept-long, seen-long}
use Rattle.cuts.proofs.EvictedImage.{evicted-image}

-- a buffer of zeros for the cells
abbrev zeros : List ℕ
zeros = replicate cell_count 0

module _ (machine : Machine) (reached : Reached machine) where
  -- every choice, of any lines, finds the cells of the reference model
  finds : (lines : List ℕ) →
      recovered_by machine lines ≡ record { answer = Ok 0; buffer = cells_of (book_after reached.words reached.steps) }
  unfolding recovered_by
  finds lines =
      ap (λ (machine : Machine). recover_of (image_of machine) zeros) as_one ∙
      (any_eviction reached.words reached.steps (length reached.steps) lines zeros (omega arith)
      (length-replicate {A = ℕ} cell_count 0) ∙
      ap (λ (steps : List Step). record { answer = Ok 0; buffer = cells_of (book_after reached.words steps) }) whole)
    where
      whole : take (length reached.steps) reached.steps ≡ reached.steps
      whole = take_all (length reached.steps) reached.steps (omega arith)

      as_one : after machine (evictions lines) ≡
          after (start_machine reached.words) (take (length reached.steps) reached.steps ++ evictions lines)
      as_one =
          ap (λ (machine : Machine). after machine (evictions lines)) reached.leads ∙
          (sym (after_append (start_machine reached.words) reached.steps (evictions lines)) ∙
          ap (λ (steps : List Step). after (start_machine reached.words) (steps ++ evictions lines)) (sym whole))

-- "all choices at one cut recover to the same cells"
pub all_alike : AllAlike
all_alike machine reached lines = (
  finds machine reached lines ∙ sym (finds machine reached []),
  ap (λ (outcome : Outcome). outcome.answer) (finds machine reached lines),
)

-- ---- trying all choices

module _ (machine : Machine) (reached : Reached machine) where
  -- what recovery finds of the cells as kept, and of all cells as seen
  abbrev pub kept_cells : List ℕ
  kept_cells = recovered_cells machine

  abbrev pub seen_cells : List ℕ
  seen_cells = recovered_cells (after machine evict_all)

  all-128 : length (cells_of (book_after reached.words reached.steps)) ≡ cell_count
  all-128 =
      (cut_recovers reached.words reached.steps (replicate image_words 0) zeros
      (length-replicate {A = ℕ} image_words 0) (length-replicate {A = ℕ} cell_count 0)).all128

  found-long : (lines : List ℕ) → length (recovered_by machine lines).buffer ≡ cell_count
  found-long lines = ap (λ (outcome : Outcome). length outcome.buffer) (finds machine reached lines) ∙ all-128

  kept-found : kept_cells ≡ (recovered_by machine []).buffer
  unfolding recovered_cells recovered_by after evictions flatten
  kept-found = refl

  seen-found : seen_cells ≡ (recovered_by machine (tab line_count (λ line. line))).buffer
  unfolding recovered_cells recovered_by
  seen-found = ap (λ (image : List ℕ). (recover_of image zeros).buffer) (sym (lines-seen machine reached))

  as_long : length seen_cells ≡ length kept_cells
  as_long = (ap length seen-found ∙ found-long (tab line_count (λ line. line))) ∙ sym (ap length kept-found ∙ found-long [])

  -- what a choice recovers is mixed of the cells recovered as seen and as kept, since recovery takes each cell by itself
  choice-mixes : (lines : List ℕ) → (recovered_by machine lines).buffer ≡ mix_from (λ cell. is_in (line_of cell) lines) 0 seen_cells kept_cells
  unfolding recovered_cells recovered_by
  choice-mixes lines =
      ap (λ (image : List ℕ). (recover_of image zeros).buffer) (evicted-image machine reached lines) ∙
      ap (λ (outcome : Outcome). outcome.buffer)
      (recover-mixes (λ cell. is_in (line_of cell) lines) (seen_image machine reached) (image_of machine) zeros
      (seen-long machine reached) (kept-long machine reached) (same-logs machine reached))

  -- the mixture of the seen and the kept cells by any choice is what is recovered with nothing evicted
  mixture-same : (lines : List ℕ) → mix_from (λ cell. is_in (line_of cell) lines) 0 seen_cells kept_cells ≡ kept_cells
  mixture-same lines =
      sym (choice-mixes lines) ∙ (ap (λ (outcome : Outcome). outcome.buffer) (all_alike machine reached lines).0 ∙ sym kept-found)

  -- the images with every cell evicted and with none differ in the lines whose seen and kept contents differ
  lines-tried : lowest_lines (seen_image machine reached) (image_of machine) ≡ tried_lines machine
  lines-tried =
      lowest-same (seen_image machine reached) (image_of machine) machine.cache.cached machine.cache.persisted
      (seen-cells machine reached) (kept-cells machine reached)

  -- the number of choices that are found alike is the number of outcomes that are tried
  pub all-tried : alike_choices (seen_image machine reached) (image_of machine) seen_cells kept_cells ≡ length (tried machine)
  unfolding tried
  all-tried =
      all_found seen_cells kept_cells as_long (seen_image machine reached) (image_of machine)
      (omega (arith, seen-long machine reached)) (omega (arith, kept-long machine reached)) mixture-same ∙
      (ap (λ (lines : List ℕ). length (choices_of lines)) lines-tried ∙
      sym (length-map (choices_of (tried_lines machine)) (recovered_by machine)))

-- ---- what is written of a cut

-- what the calls leave, put together: two cuts, two recoveries, the choices that are alike, the cells that are not 0, and the line of them
pub cut-found : (machine : Machine) (number place : ℕ) (old : List ℕ) {image seen kept others new : List ℕ}
    {choices differ end : ℕ} {a b c d : Answer}
    → Reached machine
    → ◌≡◌ {A = Outcome} (record { answer = a; buffer = image }) (cut_of machine (replicate image_words 0))
    → ◌≡◌ {A = Outcome} (record { answer = b; buffer = seen }) (cut_of (after machine evict_all) (replicate image_words 0))
    → ◌≡◌ {A = Outcome} (record { answer = c; buffer = kept }) (recover_of image zeros)
    → ◌≡◌ {A = Outcome} (record { answer = d; buffer = others }) (recover_of seen zeros)
    → choices ≡ alike_choices seen image others kept
    → differ ≡ not_zero kept
    → Put old place (cut_line_text number choices differ) end new
    → Put old place (cut_text number machine) end new
unfolding cut_text
cut-found machine number place old {image} {seen} {kept} {others} {choices = choices} {differ = differ} reached cut cut_seen recovered
    recovered_seen choices_are differ_are put =
    let is_image : image ≡ image_of machine = cut_image machine cut in
    let is_seen : seen ≡ seen_image machine reached = cut_image (after machine evict_all) cut_seen in
    let is_kept : kept ≡ kept_cells machine reached = recovered_are machine cut recovered in
    let are_seen : others ≡ seen_cells machine reached = recovered_are (after machine evict_all) cut_seen recovered_seen in
    let text : cut_line_text number choices differ ≡ cut_text number machine =
    ap₂ (λ (choices differ : ℕ). cut_line_text number choices differ)
    (choices_are ∙
    (ap₂ (λ (seen image : List ℕ). alike_choices seen image others kept) is_seen is_image ∙
    (ap₂ (alike_choices (seen_image machine reached) (image_of machine)) are_seen is_kept ∙ all-tried machine reached)))
    (differ_are ∙ ap not_zero (is_kept ∙ kept-found machine reached)) in
    (put.0 ∙ ap (place_after old place) text, put.1 ∙ ap (written old place) text)
