-- What stands while it may still be joined, as the code holds it.
use Rattle.std.specs.Prelude.{◌≡◌, ℕ, ◌+◌, ◌≤◌, Bool, true, false, List, [], ◌∷◌, Some, map}
use Rattle.cb_tokens.specs.Kinds.{token_kind}
use Rattle.cb_paste.specs.declared.work_token.WorkToken.{WorkToken}
use Rattle.cb_paste.specs.declared.slots.Slot.{Slot}
use Rattle.cb_paste.specs.declared.slots.Slot.TheVariants as slot
use Rattle.cb_paste.specs.Shades.{seen}
use Rattle.cb_paste.specs.Joins.{Put, Mark, Real}

-- how many tokens stand (own)
abbrev pub token_count : List Slot → ℕ
token_count [] = 0
token_count (slot.Mark s ∷ rest) = token_count rest
token_count (slot.Real t joined ∷ rest) = 1 + token_count rest

-- what stands at a side of ##, with its hide set (own)
abbrev pub seen_slot : List (List ℕ) → Slot → Put
seen_slot sets (slot.Mark spaced) = Mark spaced
seen_slot sets (slot.Real t joined) = Real (seen sets t)

-- all that stands, with the hide sets (own)
abbrev pub seen_slots : List (List ℕ) → List Slot → List Put
seen_slots sets slots = map (seen_slot sets) slots

-- the same with such white space before it (own)
abbrev pub spaced_slot : Bool → Slot → Slot
spaced_slot spaced (slot.Mark s) = slot.Mark spaced
spaced_slot spaced (slot.Real t joined) = slot.Real (record t { spaced = spaced }) joined

-- a token as it stands before any ## (own)
abbrev pub as_slot : WorkToken → Slot
as_slot t = slot.Real t false

-- its hide set stands in an arena of so many, and the form of what ## made is that of its bytes (own)
abbrev pub IsSlotIn : ℕ → Slot → Type 0
IsSlotIn count (slot.Mark spaced) = Unit {0}
IsSlotIn count (slot.Real t joined) = (t.hides ≤ count) × (joined ≡ true → token_kind t.text ≡ Some t.kind)

-- each of them (own)
abbrev pub AreSlotsIn : ℕ → List Slot → Type 0
AreSlotsIn count [] = Unit {0}
AreSlotsIn count (s ∷ rest) = IsSlotIn count s × AreSlotsIn count rest
