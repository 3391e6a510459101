-- A log written into an image: its stretch over a lent part, and its head and its stretch in a whole image.
use Rattle.std.specs.Prelude.{ℕ, ◌+◌, cond, List, ◌++◌, length, set, take, drop, ltb}
use Rattle.reader.specs.Stretch.{heads_at, stretch_words, stretch_at}
use Rattle.entry.specs.Words.{words_of}
use Rattle.thread_log.specs.declared.Log.{Log}

-- document 01's "per-log writer", over a lent part: its first 256 words are the persisted ones, and a part that is too short is as it was
unfoldable pub written_of : Log → List ℕ → List ℕ
written_of log part =
    cond (ltb (length part) stretch_words) part (words_of log.persisted ++ drop stretch_words part)

-- "The cut writes each thread's stretch into the middle of the lent image": an image with a thread's head, and its log's stretch from the
-- thread's first word on
unfoldable pub log_into : Log → ℕ → List ℕ → List ℕ
log_into log thread image =
    let headed = set image (heads_at + thread) log.head.0 in
    take (stretch_at thread) headed ++ written_of log (drop (stretch_at thread) headed)
