-- The records of a text, as a reader comes to them.
use Rattle.std.proofs.Common.{◌≡◌, ℕ, ◌+◌, ◌<◌, ◌≤◌, ◌||◌, zero, suc, Bool, true, false, cond, Option, Some, None, List, [], ◌∷◌, ◌++◌, length, refl, ap, ◌∙◌, arith, eqb, ◌-◌, zero-add, get_or}
use denote.Ref.{Bor}
use Rattle.std.proofs.Common.{inl}
use Rattle.csv.specs.Records.{field_at}
use Rattle.csv.specs.declared.reader.Reader.{Reader}
use Rattle.csv.specs.Reading.{ReadRecord}
use Rattle.csv.proofs.ReadFacts.{rows-end, rows-more}
use Rattle.cb_measure.specs.inner.Records.{IsBehind}
use Rattle.cb_measure.specs.Reading.{records_of}
use Rattle.std.proofs.lemmas.List.{append-nil}
use Rattle.csv.specs.Machine.{Read, step, is_end, ends_at_end, next_record, fields_after, field_after}
use Rattle.csv.specs.Reading.{Reached, records_from, records, default_config, strip_bom}
use Rattle.csv.specs.declared.parser.State.{State}
use Rattle.csv.specs.declared.parser.State.TheVariants as st
use Rattle.csv.specs.declared.parser.Action.{Action}
use Rattle.csv.specs.declared.parser.Action.TheVariants as act

-- a byte inside a field that ends the record leaves the reader where the end of the text ends no further record
in_field_ends : (b1 b2 b3 : Bool)
    → is_end (cond {A = State × Action} b1 (st.StartField, act.EndField) (cond {A = State × Action} b2 (cond {A = State} b3 st.AfterCr st.StartRecord, act.EndRecord) (st.InField, act.Copy))).1 ≡ true
    → ends_at_end (cond {A = State × Action} b1 (st.StartField, act.EndField) (cond {A = State × Action} b2 (cond {A = State} b3 st.AfterCr st.StartRecord, act.EndRecord) (st.InField, act.Copy))).0 ≡ false
in_field_ends true b2 b3 h = cc h
in_field_ends false true true h = refl
in_field_ends false true false h = refl
in_field_ends false false b3 h = cc h

quoted_or : (q : Bool) (s : State) (p : State × Action) → (is_end p.1 ≡ true → ends_at_end p.0 ≡ false)
    → is_end (cond {A = State × Action} q (s, act.Skip) p).1 ≡ true → ends_at_end (cond {A = State × Action} q (s, act.Skip) p).0 ≡ false
quoted_or true s p f h = cc h
quoted_or false s p f h = f h

copied_or : (q : Bool) (s : State) (p : State × Action) → (is_end p.1 ≡ true → ends_at_end p.0 ≡ false)
    → is_end (cond {A = State × Action} q (s, act.Copy) p).1 ≡ true → ends_at_end (cond {A = State × Action} q (s, act.Copy) p).0 ≡ false
copied_or true s p f h = cc h
copied_or false s p f h = f h

-- what ends a record begins the next one
pub begins : (s : State) (c : ℕ) → is_end (step default_config s c).1 ≡ true → ends_at_end (step default_config s c).0 ≡ false
begins st.InField c h = in_field_ends (eqb c 44) (eqb c 13 || eqb c 10) (eqb c 13) h
begins st.StartField c h = quoted_or (eqb c 34) st.InQuoted _ (in_field_ends (eqb c 44) (eqb c 13 || eqb c 10) (eqb c 13)) h
begins st.StartRecord c h =
    quoted_or (eqb c 13 || eqb c 10) st.StartRecord _ (quoted_or (eqb c 34) st.InQuoted _ (in_field_ends (eqb c 44) (eqb c 13 || eqb c 10) (eqb c 13))) h
begins st.AfterCr c h =
    quoted_or (eqb c 10) st.StartRecord _ (quoted_or (eqb c 13 || eqb c 10) st.StartRecord _ (quoted_or (eqb c 34) st.InQuoted _ (in_field_ends (eqb c 44) (eqb c 13 || eqb c 10) (eqb c 13)))) h
begins st.AfterQuote c h = copied_or (eqb c 34) st.InQuoted _ (in_field_ends (eqb c 44) (eqb c 13 || eqb c 10) (eqb c 13)) h
begins st.InQuoted c h = quoted_or (eqb c 34) st.AfterQuote (st.InQuoted, act.Copy) (λ e. cc e) h
begins st.InEscape c h = cc h
begins st.InComment c h = quoted_or (eqb c 10) st.StartRecord (st.InComment, act.Skip) (λ e. cc e) h

-- the record that is being read ends, and what follows begins a record and is no longer
ends_within : (s : State) (fields : List (List ℕ)) (field xs : List ℕ) (r : Read) → next_record default_config s fields field xs ≡ Some r
    → (ends_at_end r.1 ≡ false) × (length r.2 ≤ length xs)
unfolding next_record
ends_within s fields field [] r e = at_end (ends_at_end s) e
  where
    at_end : (b : Bool) → cond {A = Option Read} b (Some (fields ++ (field ∷ []), st.StartRecord, [])) None ≡ Some r → (ends_at_end r.1 ≡ false) × (length r.2 ≤ 0)
    at_end true e = let h : (fields ++ (field ∷ []), st.StartRecord, []) ≡ r = cc e in rw (← h) (refl, omega arith)
    at_end false e = cc e
ends_within s fields field (c ∷ rest) r e =
    by (is_end (step default_config s c).1) refl e
    (ends_within (step default_config s c).0 (fields_after (step default_config s c).1 fields field) (field_after (step default_config s c).1 c field) rest r)
  where
    by : (b : Bool) → is_end (step default_config s c).1 ≡ b
        → cond {A = Option Read} b (Some (fields_after (step default_config s c).1 fields field, (step default_config s c).0, rest))
        (next_record default_config (step default_config s c).0 (fields_after (step default_config s c).1 fields field) (field_after (step default_config s c).1 c field) rest) ≡ Some r
        → (next_record default_config (step default_config s c).0 (fields_after (step default_config s c).1 fields field) (field_after (step default_config s c).1 c field) rest ≡ Some r
        → (ends_at_end r.1 ≡ false) × (length r.2 ≤ length rest))
        → (ends_at_end r.1 ≡ false) × (length r.2 ≤ suc (length rest))
    by true h e more =
        let q : (fields_after (step default_config s c).1 fields field, (step default_config s c).0, rest) ≡ r = cc e in
        rw (← q) (begins s c h, omega arith)
    by false h e more = let g = more e in (g.0, omega (arith, g.1))

-- the record that begins a text takes a byte at least
starts_within : (s : State) (xs : List ℕ) (r : Read) → ends_at_end s ≡ false → next_record default_config s [] [] xs ≡ Some r
    → (ends_at_end r.1 ≡ false) × (length r.2 < length xs)
unfolding next_record
starts_within s [] r b e = cc (rw b at e)
starts_within s (c ∷ rest) r b e = by (is_end (step default_config s c).1) refl e
  where
    by : (b : Bool) → is_end (step default_config s c).1 ≡ b
        → cond {A = Option Read} b (Some (fields_after (step default_config s c).1 [] [], (step default_config s c).0, rest))
        (next_record default_config (step default_config s c).0 (fields_after (step default_config s c).1 [] []) (field_after (step default_config s c).1 c []) rest) ≡ Some r
        → (ends_at_end r.1 ≡ false) × (length r.2 < suc (length rest))
    by true h e =
        let q : (fields_after (step default_config s c).1 [] [], (step default_config s c).0, rest) ≡ r = cc e in
        rw (← q) (begins s c h, omega arith)
    by false h e =
        let g = ends_within (step default_config s c).0 (fields_after (step default_config s c).1 [] []) (field_after (step default_config s c).1 c []) rest r e in
        (g.0, omega (arith, g.1))

-- records that were read take at least a byte each
reached_within : (s s2 : State) (xs ys : List ℕ) (rows : List (List (List ℕ))) → ends_at_end s ≡ false → Reached default_config s xs rows s2 ys
    → (ends_at_end s2 ≡ false) × (length rows + length ys ≤ length xs)
unfolding Reached
reached_within s s2 xs ys [] b h = rw (← h.0, ← h.1) (b, omega arith)
reached_within s s2 xs ys (row ∷ rows) b h =
    let first = starts_within s xs h.0 b h.1 in
    let more = reached_within h.0.1 s2 h.0.2 ys rows first.0 h.3 in
    (more.0, omega (arith, first.1, more.1))

suc-add : (m n : ℕ) → suc m + n ≡ suc (m + n)
suc-add m n = omega arith

one_more : (s : State) (xs : List ℕ) (row : List (List ℕ)) (p : Read) (n : ℕ) → next_record default_config s [] [] xs ≡ Some p → row ≡ p.0
    → records_from default_config (suc n) s xs ≡ row ∷ records_from default_config n p.1 p.2
unfolding records_from
one_more s xs row p n e f = rw (e, f) refl

-- the records of a text are those that were read and then others
read_first : (s s2 : State) (xs ys : List ℕ) (rows : List (List (List ℕ))) (n : ℕ) → Reached default_config s xs rows s2 ys
    → records_from default_config (length rows + n) s xs ≡ rows ++ records_from default_config n s2 ys
unfolding Reached
read_first s s2 xs ys [] n h = rw (zero-add n, h.0, h.1) refl
read_first s s2 xs ys (row ∷ rows) n h =
    let more = read_first h.0.1 s2 h.0.2 ys rows n h.3 in
    rw (suc-add (length rows) n) (one_more s xs row h.0 (length rows + n) h.1 h.2 ∙ ap (λ (l : List (List (List ℕ))). row ∷ l) more)

read_of : (s2 : State) (xs ys : List ℕ) (rows : List (List (List ℕ))) (m n : ℕ) → m ≡ length rows + n → Reached default_config st.StartRecord xs rows s2 ys
    → records_from default_config m st.StartRecord xs ≡ rows ++ records_from default_config n s2 ys
read_of s2 xs ys rows m n e h = rw e (read_first st.StartRecord s2 xs ys rows n h)

-- the records that were read stand first in the text
pub seen_first : (s2 : State) (text ys : List ℕ) (rows : List (List (List ℕ))) → Reached default_config st.StartRecord (strip_bom text) rows s2 ys
    → (rest : List (List (List ℕ))) × (records default_config (strip_bom text) ≡ rows ++ rest)
seen_first s2 text ys rows h =
    let within = reached_within st.StartRecord s2 (strip_bom text) ys rows refl h in
    let n = length (strip_bom text) + 1 - length rows in
    (records_from default_config n s2 ys, read_of s2 (strip_bom text) ys rows (length (strip_bom text) + 1) n (omega (arith, within.1)) h)

none_left : (s : State) (ys : List ℕ) (n : ℕ) → next_record default_config s [] [] ys ≡ None → records_from default_config n s ys ≡ []
unfolding records_from
none_left s ys zero e = refl
none_left s ys (suc n) e = rw e refl

-- they are all where no further one follows
pub seen_all : (s2 : State) (text ys : List ℕ) (rows : List (List (List ℕ))) → Reached default_config st.StartRecord (strip_bom text) rows s2 ys
    → next_record default_config s2 [] [] ys ≡ None → records default_config (strip_bom text) ≡ rows
seen_all s2 text ys rows h none =
    let within = reached_within st.StartRecord s2 (strip_bom text) ys rows refl h in
    let n = length (strip_bom text) + 1 - length rows in
    read_of s2 (strip_bom text) ys rows (length (strip_bom text) + 1) n (omega (arith, within.1)) h ∙ rw (none_left s2 ys n none) (append-nil rows)

-- a field of a record, by its place
pub field_there : (fields : List (List ℕ)) (i : ℕ) (field : List ℕ) → field_at fields i ≡ Some field → get_or fields i [] ≡ field
unfolding field_at
field_there [] i field e = cc e
field_there (f ∷ fs) zero field e = cc e
field_there (f ∷ fs) (suc i) field e = field_there fs i field e

pub field_past : (fields : List (List ℕ)) (i : ℕ) → field_at fields i ≡ None → get_or fields i [] ≡ []
unfolding field_at
field_past [] i e = refl
field_past (f ∷ fs) zero e = cc e
field_past (f ∷ fs) (suc i) e = field_past fs i e

-- a reader that read one more record, and one that found none
pub behind_more : (a b : Reader (Bor (List ℕ))) (fields : List (List ℕ)) (text : List ℕ) (seen : List (List (List ℕ))) → IsBehind a text seen
    → ReadRecord (λ (s : Bor (List ℕ)). Some s.now) a b true fields → b.first ≡ true → IsBehind b text (seen ++ fields ∷ [])
behind_more a b fields text seen h r first =
    let m = rows-more (λ (s : Bor (List ℕ)). Some s.now) a b fields default_config st.StartRecord (strip_bom text) h.left seen h.config h.source h.reached r in
    record { trim = r.3 ∙ h.trim; ready = inl first; config = r.2 ∙ h.config; left = m.0; source = m.1; reached = m.2 }

pub behind_all : (a b : Reader (Bor (List ℕ))) (fields : List (List ℕ)) (text : List ℕ) (seen : List (List (List ℕ))) → IsBehind a text seen
    → ReadRecord (λ (s : Bor (List ℕ)). Some s.now) a b false fields → records_of text ≡ seen
behind_all a b fields text seen h r =
    seen_all a.state text h.left seen h.reached (rows-end (λ (s : Bor (List ℕ)). Some s.now) a b fields default_config h.left h.config h.source r)

pub behind_some : (a : Reader (Bor (List ℕ))) (text : List ℕ) (seen : List (List (List ℕ))) → IsBehind a text seen
    → (rest : List (List (List ℕ))) × (records_of text ≡ seen ++ rest)
behind_some a text seen h = seen_first a.state text h.left seen h.reached
