-- The image of a cut: "Every cell, slot and head then holds its kept content".
use Rattle.std.specs.Prelude.{Ok}
use Rattle.std.specs.Prelude.{ℕ, not, length, eqb}
use mathlib.Core.List.{List, [], ◌∷◌, ◌++◌, map, flatten}
use Rattle.answer.specs.Refusals.{◌⇒◌, unless, Outcome}
use Rattle.answer.specs.declared.Refusal.TheVariants.{WrongLength}
use Rattle.reader.specs.Stretch.{image_words}
use Rattle.entry.specs.Words.{words_of}
use Rattle.machine.specs.State.{Machine}

-- "1,156 words: 128 kept cells; 4 heads; for threads 0 to 3, slots 0 to 63, the words kind, place, value, rank."
unfoldable pub image_of : Machine → List ℕ
image_of machine =
    machine.cache.persisted ++
    (map (λ log. log.head.0) machine.logs ++ flatten (map (λ log. words_of log.persisted) machine.logs))

-- the cut over a lent buffer: 21 where the buffer is "not 1,156" words
unfoldable pub cut_of : Machine → List ℕ → Outcome
cut_of machine buffer =
    unless
    (λ answer. record { answer = answer; buffer = buffer })
    ((not (eqb (length buffer) image_words) ⇒ WrongLength) ∷ [])
    (record { answer = Ok 0; buffer = image_of machine })
