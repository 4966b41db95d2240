-- The table of refusals: the number, layer and place of every cause, and its text. Assumes nothing.
use Rattle.std.specs.Prelude.{ℕ, List, ◌∷◌, ◌++◌, codes, decimal}
use Rattle.refusal.specs.declared.Layer.{Layer}
use Rattle.refusal.specs.declared.Layer.TheVariants.{Block, Store, Book, Line}
use Rattle.refusal.specs.declared.Fault.{Fault}
use Rattle.refusal.specs.declared.Fault.TheVariants.{Check, Head, Record}
use Rattle.refusal.specs.declared.Refusal.{Refusal}
use Rattle.refusal.specs.declared.Refusal.TheVariants.{
  WrongSize,
  NoSuchSession,
  SlotOutsideStore,
  SlotOutsideBook,
  WrongPhase,
  AlreadyHeld,
  NotHeld,
  NotRead,
  ReadByChange,
  StampTooEarly,
  StampTaken,
  QueueFull,
  LaterConflict,
  PendingConflict,
  Stale,
  NumbersExhausted,
  ReceiptTooHigh,
  Damaged,
  NoRule,
  Unreadable,
}

-- the layers, lowest first
abbrev pub layer_number : Layer → ℕ
layer_number Block = 1
layer_number Store = 2
layer_number Book = 3
layer_number Line = 4

-- the damages are tried in this order
abbrev pub fault_number : Fault → ℕ
fault_number Check = 17
fault_number Head = 18
fault_number Record = 19

-- what a refusal tells
pub record Row : Type 0 where
  pub number : ℕ
  pub layer : Layer
  pub place : ℕ

abbrev pub row : ℕ → Layer → ℕ → Row
row n l p = record { number = n; layer = l; place = p }

abbrev pub told : Refusal → Row
told WrongSize = row 1 Store 0
told (NoSuchSession session) = row 2 Book session
told (SlotOutsideStore slot) = row 3 Store slot
told (SlotOutsideBook slot) = row 3 Book slot
told (WrongPhase session) = row 4 Book session
told (AlreadyHeld slot) = row 5 Book slot
told (NotHeld slot) = row 6 Book slot
told (NotRead slot) = row 7 Book slot
told (ReadByChange slot) = row 8 Book slot
told StampTooEarly = row 9 Book 0
told (StampTaken entry) = row 10 Book entry
told QueueFull = row 11 Book 32
told (LaterConflict entry) = row 12 Book entry
told (PendingConflict entry) = row 13 Book entry
told (Stale slot) = row 14 Book slot
told NumbersExhausted = row 15 Book 0
told (ReceiptTooHigh session) = row 16 Book session
told (Damaged damage) = row (fault_number damage.fault) Block damage.block
told (NoRule at) = row 20 Line at
told (Unreadable at) = row 21 Line at

-- number, layer and place in decimal, with single spaces
abbrev pub line : Refusal → List ℕ
line r = decimal (told r).number ++ (32 ∷ decimal (layer_number (told r).layer) ++ (32 ∷ decimal (told r).place))

-- the causes in words
abbrev pub fault_words : Fault → List ℕ
fault_words Check = codes "the check of a block differs"
fault_words Head = codes "bytes 2 to 15 of a block are not as laid out"
fault_words Record = codes "a record or a row is no rule, or a byte is not zero where zero is laid out"

abbrev pub words : Refusal → List ℕ
words WrongSize = codes "the count is not 1 to 64, or the memory is not of its size"
words (NoSuchSession session) = codes "there is no such session"
words (SlotOutsideStore slot) = codes "the store has no such slot"
words (SlotOutsideBook slot) = codes "the book has no such slot"
words (WrongPhase session) = codes "the session is not in a phase for this call"
words (AlreadyHeld slot) = codes "the slot is held already"
words (NotHeld slot) = codes "the slot is not held"
words (NotRead slot) = codes "the change has not read the slot"
words (ReadByChange slot) = codes "the open change has read the slot"
words StampTooEarly = codes "the stamp is not after the threshold"
words (StampTaken entry) = codes "the stamp is in the queue"
words QueueFull = codes "the queue is full"
words (LaterConflict entry) = codes "a change with a later stamp clashes"
words (PendingConflict entry) = codes "a pending change with an earlier stamp writes a slot read"
words (Stale slot) = codes "a slot read was replaced since its copy was taken"
words NumbersExhausted = codes "no notice number is left"
words (ReceiptTooHigh session) = codes "the receipt is above the last learnt number"
words (Damaged damage) = fault_words damage.fault
words (NoRule at) = codes "the parts make no rule"
words (Unreadable at) = codes "a field is unreadable, missing or too many"
