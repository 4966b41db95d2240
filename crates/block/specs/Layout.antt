-- A block of 512 bytes: where its check, head and records stand, what is wrong with one, and how one is written.
-- Below b is the list of a block's bytes, n the number of the block, and k the number of its slots. Assumes nothing.
use Rattle.std.specs.Prelude.{◌≡◌, ℕ, zero, suc, ◌+◌, ◌-◌, ◌*◌, ◌/◌, ◌%◌, ◌<◌, ◌≤◌, Bool, true, cond, not, ◌&&◌, List, [], ◌∷◌, ◌++◌, length, drop, replicate, is_some, Some, None, Option, ◌==◌, slice_index, slice_index_or}
use Rattle.std.specs.List.{between, flat_map, AllByRecursion}
use Rattle.std.specs.Simd.{first_chunks}
use Rattle.std.proofs.Math.Seq.{paste}
use Rattle.refusal.specs.declared.Fault.{Fault}
use Rattle.refusal.specs.declared.Fault.TheVariants.{Check, Head, Record}
use Rattle.rule.specs.declared.Parts.{Parts}
use Rattle.rule.specs.declared.Rule.{Rule}
use Rattle.rule.specs.Making.{make, parts_of, open_rule}
use Rattle.block.specs.Check.{check}

-- the numbers of 16 and of 32 bits at a place, high byte first
abbrev pub word : List ℕ → ℕ → ℕ
word bytes i = slice_index bytes i * 256 + slice_index bytes (i + 1)

abbrev pub long : List ℕ → ℕ → ℕ
long bytes i = word bytes i * 65536 + word bytes (i + 2)

-- and the bytes of such numbers
abbrev pub word_bytes : ℕ → List ℕ
word_bytes n = (n / 256 % 256) ∷ (n % 256) ∷ []

abbrev pub long_bytes : ℕ → List ℕ
long_bytes n = word_bytes (n / 65536) ++ word_bytes n

-- the parts in the twelve bytes of a record
abbrev pub parts_in : List ℕ → Parts
parts_in bytes = record { address = long bytes 0; prefix = slice_index bytes 4; action = slice_index bytes 5; first = word bytes 6; last = word bytes 8 }

-- the rule in a record, if its last two bytes are zero and its parts make one
unfoldable pub rule_in : List ℕ → Option Rule
rule_in bytes = cond (word bytes 10 == 0) (make (parts_in bytes)) None

-- the bytes of a record with these parts: address, prefix, action, the ports and two zeros
abbrev pub bytes_of : Parts → List ℕ
bytes_of p = long_bytes p.address ++ (p.prefix ∷ p.action ∷ word_bytes p.first ++ (word_bytes p.last ++ (0 ∷ 0 ∷ [])))

-- the record of a rule
unfoldable pub record_bytes : Rule → List ℕ
record_bytes r = bytes_of (parts_of r)

-- where record i begins
abbrev pub record_start : ℕ → ℕ
record_start i = 16 + 12 * i

-- the bytes behind the head, twelve by twelve
unfoldable pub records_in : List ℕ → List (List ℕ)
records_in b = first_chunks 12 41 (drop 16 b)

-- the rule in record i of a block, if it holds one
unfoldable pub rule_at : List ℕ → ℕ → Option Rule
rule_at b i = rule_in (between (record_start i) (record_start i + 12) b)

-- each byte is zero
unfoldable pub all_zero : List ℕ → Bool
all_zero [] = true
all_zero (x ∷ xs) = x == 0 && all_zero xs

-- each record below k holds a rule
unfoldable pub rules_below : List ℕ → ℕ → Bool
rules_below b zero = true
rules_below b (suc k) = is_some (rule_at b k) && rules_below b k

-- the check that the block carries is the check of its other bytes
unfoldable pub check_right : List ℕ → Bool
check_right b = word b 0 == check (drop 2 b)

-- the number of the block, the number of its slots, and twelve zeros
unfoldable pub head_right : List ℕ → ℕ → ℕ → Bool
head_right b n k = slice_index b 2 == n && (slice_index b 3 == k && all_zero (between 4 16 b))

-- rules in the records, and zeros behind the last one
unfoldable pub body_right : List ℕ → ℕ → Bool
body_right b k = rules_below b k && all_zero (drop (record_start k) b)

-- what is wrong with a block: the first of the three that is not right
unfoldable pub damage_of : List ℕ → ℕ → ℕ → Option Fault
damage_of b n k =
    cond (not (check_right b)) (Some Check)
    (cond (not (head_right b n k)) (Some Head)
    (cond (not (body_right b k)) (Some Record) None))

-- the other bytes of a block with their check in front
unfoldable pub with_check : List ℕ → List ℕ
with_check bytes = word_bytes (check bytes) ++ bytes

-- a block with its check written anew
unfoldable pub sealed : List ℕ → List ℕ
sealed b = with_check (drop 2 b)

-- a block with the bytes of a rule for record i, and with its check as it was
abbrev pub with_record : List ℕ → ℕ → Rule → List ℕ
with_record b i r = paste b (record_start i) (record_bytes r) 12

-- the same with its check written anew
unfoldable pub rewritten : List ℕ → ℕ → Rule → List ℕ
rewritten b i r = sealed (with_record b i r)

-- the block n with these rules
unfoldable pub laid_out : ℕ → List Rule → List ℕ
laid_out n rules =
    with_check (n ∷ length rules ∷ replicate 12 0 ++ (flat_map record_bytes rules ++ replicate (496 - 12 * length rules) 0))

-- what is written reads back: a block of 512 bytes, with nothing wrong, and with each rule in its place
pub record ReadsBack (n : ℕ) (rules : List Rule) : Type 0 where
  pub size : length (laid_out n rules) ≡ 512
  pub bytes : AllByRecursion (λ byte. byte < 256) (laid_out n rules)
  pub right : damage_of (laid_out n rules) n (length rules) ≡ None
  pub reads : (i : ℕ) → i < length rules → rule_at (laid_out n rules) i ≡ Some (slice_index_or rules i open_rule)

-- for every number that fits a byte and at most 32 rules
abbrev pub WrittenReadsBack : Type 0
WrittenReadsBack = (n : ℕ) (rules : List Rule) → n < 256 → length rules ≤ 32 → ReadsBack n rules
