-- Document 01's number of each answer and the number beside it: what a program prints. Promises name the answers themselves.
use Rattle.std.specs.Prelude.{ℕ, Bool, true, false, Result, Ok, Err}
use Rattle.answer.specs.declared.Refusal.{Refusal}
use Rattle.answer.specs.declared.Refusal.TheVariants.{NoSuchKind, NoSuchThread, NoSuchPlace, UnusedField, NoSuchWordCount}
use Rattle.answer.specs.declared.Refusal.TheVariants.{LogFull, LsnsUsedUp, Releasing, Race, NotLogged, EntryNotDurable}
use Rattle.answer.specs.declared.Refusal.TheVariants.{LockHeld, LockNotHeld, NotReleasing, NothingToPrune, EarlierReleaseNotPruned}
use Rattle.answer.specs.declared.Refusal.TheVariants.{CellNotDurable, NoLiveEntry, Unreadable, WrongLength, BadHead, BadEntry, Cyclic}
use Rattle.answer.specs.declared.Refusal.TheVariants.{TooManyCells, NotPairs, NotAnOrder}

-- an answer: the number that an accepted step gives, or the refusal
abbrev pub Answer : Type 0
Answer = Result ℕ Refusal

-- the refusal's number
abbrev pub refusal_number : Refusal → ℕ
refusal_number NoSuchKind = 1
refusal_number NoSuchThread = 2
refusal_number NoSuchPlace = 3
refusal_number UnusedField = 4
refusal_number LogFull = 5
refusal_number LsnsUsedUp = 6
refusal_number Releasing = 7
refusal_number Race = 8
refusal_number NotLogged = 10
refusal_number EntryNotDurable = 11
refusal_number LockHeld = 12
refusal_number LockNotHeld = 13
refusal_number NotReleasing = 14
refusal_number NothingToPrune = 15
refusal_number EarlierReleaseNotPruned = 16
refusal_number CellNotDurable = 17
refusal_number NoLiveEntry = 18
refusal_number NoSuchWordCount = 19
refusal_number Unreadable = 20
refusal_number WrongLength = 21
refusal_number BadHead = 22
refusal_number BadEntry = 23
refusal_number Cyclic = 24
refusal_number TooManyCells = 25
refusal_number NotPairs = 26
refusal_number NotAnOrder = 27

-- the answer's number: 0 is acceptance
abbrev pub number_of : Answer → ℕ
number_of (Ok given) = 0
number_of (Err refusal) = refusal_number refusal

-- the number beside the answer: the one that document 01 names for an accepted step, and 0 beside a refusal
abbrev pub value_of : Answer → ℕ
value_of (Ok given) = given
value_of (Err refusal) = 0

-- the step was accepted
abbrev pub is_accepted : Answer → Bool
is_accepted (Ok given) = true
is_accepted (Err refusal) = false
