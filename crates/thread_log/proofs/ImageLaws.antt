-- The reader finds the cells, the heads and the logs' stretches in an image that is put together of them.
use Prim.Native.Nat.{ℕ, ◌*◌, ◌<◌}
use mathlib.Core.Path.{◌≡◌, ap, ◌∙◌}
use mathlib.Core.List.{List, [], ◌++◌, map, flatten}
use native.Mathlib.Omega.{arith}
use lib.ListN.{length, get_or, length-map}
use Rattle.sizes.specs.Sizes.{thread_count, entry_words}
use Rattle.answer.proofs.ListLaws.{get_d_map}
use Rattle.ring.specs.Ring.{slot_count}
use Rattle.entry.specs.Words.{words_of}
use Rattle.reader.specs.Stretch.{heads_at}
use Rattle.thread_log.specs.declared.Log.{Log}
use Rattle.thread_log.proofs.SlotLaws.{length_words}
use Rattle.reader.proofs.StretchLaws.{Reads, image_reads}

-- the image of 128 cells and of 4 logs: their heads, then their persisted words
pub logs-read : (cells : List ℕ) (logs : List Log) (none : Log) → length cells ≡ heads_at → length logs ≡ thread_count
    → ((thread : ℕ) → thread < thread_count → length (get_or logs thread none).persisted ≡ slot_count)
    → Reads (cells ++ (map (λ log. log.head.0) logs ++ flatten (map (λ log. words_of log.persisted) logs))) cells
    (λ thread. (get_or logs thread none).head.0) (λ thread. words_of (get_or logs thread none).persisted)
logs-read cells logs none cell_count log_count each =
    let heads : List ℕ = map (λ log. log.head.0) logs in
    let parts : List (List ℕ) = map (λ log. words_of log.persisted) logs in
    let part_is : (thread : ℕ) → thread < thread_count → get_or parts thread [] ≡ words_of (get_or logs thread none).persisted =
    λ thread inside. get_d_map (λ log. words_of log.persisted) logs thread none [] (omega arith) in
    let read =
    image_reads cells heads parts [] cell_count (length-map logs _ ∙ log_count) (length-map logs _ ∙ log_count)
    (λ thread inside.
    ap length (part_is thread inside) ∙ length_words (get_or logs thread none).persisted ∙
    ap (λ count. count * entry_words) (each thread inside)) in
    record {
      length_is = read.length_is;
      cells_are = read.cells_are;
      head_is = λ thread inside. read.head_is thread inside ∙ get_d_map (λ log. log.head.0) logs thread none 0 (omega arith);
      stretch_is = λ thread inside. read.stretch_is thread inside ∙ part_is thread inside;
    }
