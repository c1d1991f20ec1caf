-- A file has one list of entries, or one first fault.
use Rattle.std.proofs.Common.{◌≡◌, ◌∙◌, ◌<◌, ℕ, zero, suc, List, [], ◌∷◌, length, Option, Some, None, refl, sym, ap, subst, inl, inr, arith}
use Rattle.std.specs.Prelude.{◌⊎◌, unwrap_or, is_some}
use Rattle.serde_json.specs.Data.{Data, null, boolean, number, string, array, object}
use Rattle.cb_compdb.specs.Databases.{items_in, Written, arguments, command, Fields, fields_of, IsWritten, HasOpen, IsEntry, IsNoObject, LacksField, LacksQuote, AreEntries, StopsAt, HasItems, HasEntries, Lacks, IsJson, IsDatabase, HasFault}
use Rattle.cb_compdb.specs.declared.entry.Entry.{Entry}
use Rattle.cb_compdb.specs.declared.fault.BadDatabase.{BadDatabase}
use Rattle.cb_compdb.specs.declared.fault.BadDatabase.TheVariants.{NotJson, NotArray, NotObject, Field, OpenQuote, TooMany}
use Rattle.cb_compdb.specs.inner.Items.{FailsWith}
use Rattle.cb_compdb.proofs.OneSplitting.{one_words, no_words}

-- what two options that are the same hold
same_some : {A : Type 0} {o : Option A} (x y : A) → o ≡ Some x → o ≡ Some y → x ≡ y
same_some x y e f = ap (λ o. unwrap_or o x) (sym e ∙ f)

-- words that are written so are one list, and none where a quote is open
one_written : (written : Written) (some others : List (List ℕ)) → IsWritten written some → IsWritten written others → some ≡ others
one_written (arguments texts) some others h k = h ∙ sym k
one_written (command text) some others h k = one_words text some others h k

not_open : (written : Written) (words : List (List ℕ)) → IsWritten written words → HasOpen written → ⊥
not_open (arguments texts) words h o = o
not_open (command text) words h o = no_words text words h o

-- entries are the same where their fields are
entries_alike : (some other : Entry) → some.directory ≡ other.directory → some.file ≡ other.file → some.words ≡ other.words → some ≡ other
entries_alike some other d f w =
    let with_directory : List ℕ → Entry = λ x. record { directory = x; file = some.file; words = some.words } in
    let with_file : List ℕ → Entry = λ x. record { directory = other.directory; file = x; words = some.words } in
    let with_words : List (List ℕ) → Entry = λ x. record { directory = other.directory; file = other.file; words = x } in
    ap with_directory d ∙ ap with_file f ∙ ap with_words w

-- an item is one entry
one_entry : (d : Data) (some other : Entry) → IsEntry d some → IsEntry d other → some ≡ other
one_entry d some other h k =
    let same = same_some h.0 k.0 h.1 k.1 in
    let P : Fields → Type 0 = λ fields. IsWritten fields.written other.words in
    entries_alike some other
    (h.2 ∙ ap (λ (f : Fields). f.directory) same ∙ sym k.2)
    (h.3 ∙ ap (λ (f : Fields). f.file) same ∙ sym k.3)
    (one_written h.0.written some.words other.words h.4 (subst P (sym same) k.4))

-- what is no object has no fields
no_fields : (d : Data) → IsNoObject d → fields_of d ≡ None
unfolding fields_of
no_fields null none = refl
no_fields (boolean b) none = refl
no_fields (number n) none = refl
no_fields (string s) none = refl
no_fields (array ds) none = refl
no_fields (object ms) none = cc

-- so no entry has a fault
no_entry_no_object : (d : Data) (entry : Entry) → IsEntry d entry → IsNoObject d → ⊥
no_entry_no_object d entry h none = let e = no_fields d none in let f = h.1 in cc

no_entry_lacks_field : (d : Data) (entry : Entry) → IsEntry d entry → LacksField d → ⊥
no_entry_lacks_field d entry h lacks = let e = h.1 in let f = lacks.1 in cc

no_entry_lacks_quote : (d : Data) (entry : Entry) → IsEntry d entry → LacksQuote d → ⊥
no_entry_lacks_quote d entry h lacks =
    let same = same_some h.0 lacks.0 h.1 lacks.1 in
    let P : Fields → Type 0 = λ fields. HasOpen fields.written in
    not_open h.0.written entry.words h.4 (subst P (sym same) lacks.2)

-- and no item has two
no_object_field : (d : Data) → IsNoObject d → LacksField d → ⊥
no_object_field d none lacks = let e = ap is_some none in let f = lacks.0 in cc

no_object_quote : (d : Data) → IsNoObject d → LacksQuote d → ⊥
no_object_quote d none lacks = let e = no_fields d none in let f = lacks.1 in cc

field_quote : (d : Data) → LacksField d → LacksQuote d → ⊥
field_quote d lacks quote = let e = lacks.1 in let f = quote.1 in cc

-- items are one list of entries
one_list : (ds : List Data) (some others : List Entry) → AreEntries ds some → AreEntries ds others → some ≡ others
one_list [] [] [] h k = refl
one_list [] [] (o ∷ os) h k = absurd k
one_list [] (s ∷ ss) others h k = absurd h
one_list (d ∷ ds) [] others h k = absurd h
one_list (d ∷ ds) (s ∷ ss) [] h k = absurd k
one_list (d ∷ ds) (s ∷ ss) (o ∷ os) h k = ap (λ x. x ∷ ss) (one_entry d s o h.0 k.0) ∙ ap (λ xs. o ∷ xs) (one_list ds ss os h.1 k.1)

-- where all are entries, none stops
none_stops : (P : Data → Type 0) → ((d : Data) (entry : Entry) → IsEntry d entry → P d → ⊥) → (ds : List Data) (place : ℕ) (entries : List Entry)
    → StopsAt ds place P → AreEntries ds entries → ⊥
none_stops P apart [] place entries h k = h
none_stops P apart (d ∷ ds) place [] h k = k
none_stops P apart (d ∷ ds) zero (e ∷ es) h k = apart d e k.0 h
none_stops P apart (d ∷ ds) (suc place) (e ∷ es) h k = none_stops P apart ds place es h.2 k.1

-- the place is one, and so is the fault
one_place : (P : Data → Type 0) → ((d : Data) (entry : Entry) → IsEntry d entry → P d → ⊥) → (ds : List Data) (i j : ℕ)
    → StopsAt ds i P → StopsAt ds j P → i ≡ j
one_place P apart [] i j h k = absurd h
one_place P apart (d ∷ ds) zero zero h k = refl
one_place P apart (d ∷ ds) zero (suc j) h k = absurd (apart d k.0 k.1 h)
one_place P apart (d ∷ ds) (suc i) zero h k = absurd (apart d h.0 h.1 k)
one_place P apart (d ∷ ds) (suc i) (suc j) h k = ap suc (one_place P apart ds i j h.2 k.2)

two_faults : (P Q : Data → Type 0) → ((d : Data) (entry : Entry) → IsEntry d entry → P d → ⊥) → ((d : Data) (entry : Entry) → IsEntry d entry → Q d → ⊥)
    → ((d : Data) → P d → Q d → ⊥) → (ds : List Data) (i j : ℕ) → StopsAt ds i P → StopsAt ds j Q → ⊥
two_faults P Q p q apart [] i j h k = h
two_faults P Q p q apart (d ∷ ds) zero zero h k = apart d h k
two_faults P Q p q apart (d ∷ ds) zero (suc j) h k = p d k.0 k.1 h
two_faults P Q p q apart (d ∷ ds) (suc i) zero h k = q d h.0 h.1 k
two_faults P Q p q apart (d ∷ ds) (suc i) (suc j) h k = two_faults P Q p q apart ds i j h.2 k.2

one_fault : (ds : List Data) (x y : BadDatabase) → FailsWith ds x → FailsWith ds y → x ≡ y
one_fault ds NotJson y h k = absurd h
one_fault ds NotArray y h k = absurd h
one_fault ds TooMany y h k = absurd h
one_fault ds (NotObject i) NotJson h k = absurd k
one_fault ds (NotObject i) NotArray h k = absurd k
one_fault ds (NotObject i) TooMany h k = absurd k
one_fault ds (NotObject i) (NotObject j) h k = ap NotObject (one_place IsNoObject no_entry_no_object ds i j h k)
one_fault ds (NotObject i) (Field j) h k =
    absurd (two_faults IsNoObject LacksField no_entry_no_object no_entry_lacks_field no_object_field ds i j h k)
one_fault ds (NotObject i) (OpenQuote j) h k =
    absurd (two_faults IsNoObject LacksQuote no_entry_no_object no_entry_lacks_quote no_object_quote ds i j h k)
one_fault ds (Field i) NotJson h k = absurd k
one_fault ds (Field i) NotArray h k = absurd k
one_fault ds (Field i) TooMany h k = absurd k
one_fault ds (Field i) (NotObject j) h k =
    absurd (two_faults IsNoObject LacksField no_entry_no_object no_entry_lacks_field no_object_field ds j i k h)
one_fault ds (Field i) (Field j) h k = ap Field (one_place LacksField no_entry_lacks_field ds i j h k)
one_fault ds (Field i) (OpenQuote j) h k =
    absurd (two_faults LacksField LacksQuote no_entry_lacks_field no_entry_lacks_quote field_quote ds i j h k)
one_fault ds (OpenQuote i) NotJson h k = absurd k
one_fault ds (OpenQuote i) NotArray h k = absurd k
one_fault ds (OpenQuote i) TooMany h k = absurd k
one_fault ds (OpenQuote i) (NotObject j) h k =
    absurd (two_faults IsNoObject LacksQuote no_entry_no_object no_entry_lacks_quote no_object_quote ds j i k h)
one_fault ds (OpenQuote i) (Field j) h k =
    absurd (two_faults LacksField LacksQuote no_entry_lacks_field no_entry_lacks_quote field_quote ds j i k h)
one_fault ds (OpenQuote i) (OpenQuote j) h k = ap OpenQuote (one_place LacksQuote no_entry_lacks_quote ds i j h k)

-- items with a fault are not all entries
no_fault : (ds : List Data) (bad : BadDatabase) (entries : List Entry) → FailsWith ds bad → AreEntries ds entries → ⊥
no_fault ds NotJson entries h k = h
no_fault ds NotArray entries h k = h
no_fault ds TooMany entries h k = h
no_fault ds (NotObject i) entries h k = none_stops IsNoObject no_entry_no_object ds i entries h k
no_fault ds (Field i) entries h k = none_stops LacksField no_entry_lacks_field ds i entries h k
no_fault ds (OpenQuote i) entries h k = none_stops LacksQuote no_entry_lacks_quote ds i entries h k

-- what keeps a value from being an array of few items
abbrev IsMany : Data → BadDatabase → Type 0
IsMany d bad = (bad ≡ TooMany) × (items : List Data) × (items_in d ≡ Some items) × (20000 < length items)

-- what is wrong with its items
abbrev HasWrong : Data → BadDatabase → Type 0
HasWrong d bad = (items : List Data) × HasItems d items × FailsWith items bad

abbrev Kinds : Data → BadDatabase → Type 0
Kinds d bad = ((bad ≡ NotArray) × (items_in d ≡ None)) ⊎ (IsMany d bad ⊎ HasWrong d bad)

kind_of : (d : Data) (bad : BadDatabase) → Lacks d bad → Kinds d bad
kind_of d NotJson h = absurd h
kind_of d NotArray h = inl (refl, h)
kind_of d TooMany h = inr (inl (refl, h.0, h.1, h.2))
kind_of d (NotObject i) h = inr (inr (h.0, h.1, h.2))
kind_of d (Field i) h = inr (inr (h.0, h.1, h.2))
kind_of d (OpenQuote i) h = inr (inr (h.0, h.1, h.2))

-- many items are not few
not_few : (d : Data) (items few : List Data) → items_in d ≡ Some items → 20000 < length items → HasItems d few → ⊥
not_few d items few is many h = let e = ap length (same_some items few is h.0) in let f = h.1 in omega arith

one_kind : (d : Data) (x y : BadDatabase) → Kinds d x → Kinds d y → x ≡ y
one_kind d x y (inl h) (inl k) = h.0 ∙ sym k.0
one_kind d x y (inl h) (inr (inl k)) = let e = h.1 in let f = k.2 in cc
one_kind d x y (inl h) (inr (inr k)) = let e = h.1 in let f = k.1.0 in cc
one_kind d x y (inr (inl h)) (inl k) = let e = k.1 in let f = h.2 in cc
one_kind d x y (inr (inl h)) (inr (inl k)) = h.0 ∙ sym k.0
one_kind d x y (inr (inl h)) (inr (inr k)) = absurd (not_few d h.1 k.0 h.2 h.3 k.1)
one_kind d x y (inr (inr h)) (inl k) = let e = k.1 in let f = h.1.0 in cc
one_kind d x y (inr (inr h)) (inr (inl k)) = absurd (not_few d k.1 h.0 k.2 k.3 h.1)
one_kind d x y (inr (inr h)) (inr (inr k)) =
    let P : List Data → Type 0 = λ items. FailsWith items y in
    one_fault h.0 x y h.2 (subst P (same_some k.0 h.0 k.1.0 h.1.0) k.2)

no_kind : (d : Data) (bad : BadDatabase) (entries : List Entry) → Kinds d bad → HasEntries d entries → ⊥
no_kind d bad entries (inl h) k = let e = h.1 in let f = k.1.0 in cc
no_kind d bad entries (inr (inl h)) k = not_few d h.1 k.0 h.2 h.3 k.1
no_kind d bad entries (inr (inr h)) k =
    let P : List Data → Type 0 = λ items. AreEntries items entries in
    no_fault h.0 bad entries h.2 (subst P (same_some k.0 h.0 k.1.0 h.1.0) k.2)

-- a file has one JSON value
one_json : (bytes : List ℕ) (d e : Data) → IsJson bytes d → IsJson bytes e → d ≡ e
one_json bytes d e h k = same_some d e h.1 k.1

-- a file has one list of entries
pub one_entries : (bytes : List ℕ) (some others : List Entry) → IsDatabase bytes some → IsDatabase bytes others → some ≡ others
one_entries bytes some others h k =
    let P : Data → Type 0 = λ d. HasEntries d others in
    let other = subst P (one_json bytes k.0 h.0 k.1 h.1) k.2 in
    let Q : List Data → Type 0 = λ items. AreEntries items others in
    one_list h.2.0 some others h.2.2 (subst Q (same_some other.0 h.2.0 other.1.0 h.2.1.0) other.2)

-- and one first fault
pub one_first : (bytes : List ℕ) (x y : BadDatabase) → HasFault bytes x → HasFault bytes y → x ≡ y
one_first bytes x y (inl h) (inl k) = h.0 ∙ sym k.0
one_first bytes x y (inl h) (inr k) = absurd (h.1 k.0 k.1)
one_first bytes x y (inr h) (inl k) = absurd (k.1 h.0 h.1)
one_first bytes x y (inr h) (inr k) =
    let P : Data → Type 0 = λ d. Lacks d y in
    one_kind h.0 x y (kind_of h.0 x h.2) (kind_of h.0 y (subst P (one_json bytes k.0 h.0 k.1 h.1) k.2))

-- and never both
pub not_both : (bytes : List ℕ) (entries : List Entry) (bad : BadDatabase) → IsDatabase bytes entries → HasFault bytes bad → ⊥
not_both bytes entries bad h (inl k) = k.1 h.0 h.1
not_both bytes entries bad h (inr k) =
    let P : Data → Type 0 = λ d. Lacks d bad in
    no_kind h.0 bad entries (kind_of h.0 bad (subst P (one_json bytes k.0 h.0 k.1 h.1) k.2)) h.2
