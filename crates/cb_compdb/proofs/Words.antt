-- What the words of a compiler are, and what they do.
use Rattle.std.proofs.Common.{◌≡◌, ◌≢◌, ◌∙◌, ◌==◌, ℕ, Bool, true, false, List, [], ◌∷◌, ◌++◌, length, drop, cond, Option, Some, None, Bor, MatchOption, option_map, refl, sym, ap}
use Rattle.std.proofs.lemmas.Bool.{eqb-true, eq-eqb}
use Rattle.std.proofs.lemmas.List.{nil_from_length}
use Rattle.cb_compdb.specs.Options.{with_text, takes_next, skips_next, other, behind, form_of, last_effects, effects_by, effects_of}
use Rattle.cb_compdb.specs.declared.form.OptionKind.{OptionKind}

-- what stands behind a front
behind-append : (name rest : List ℕ) → behind name (name ++ rest) ≡ Some rest
behind-append [] rest = refl
behind-append (b ∷ bs) rest = let same : (b == b) ≡ true = eq-eqb b b refl in rw same (behind-append bs rest)

behind-none_by : (b c : ℕ) (bs cs : List ℕ) (t : Bool) → (b == c) ≡ t → ((rest : List ℕ) → c ∷ cs ≢ (b ∷ bs) ++ rest)
    → (((rest : List ℕ) → cs ≢ bs ++ rest) → behind bs cs ≡ None) → cond t (behind bs cs) None ≡ None
behind-none_by b c bs cs true e none more =
    more (λ rest h. none rest (ap (λ x. x ∷ cs) (sym (eqb-true b c e)) ∙ ap (λ xs. b ∷ xs) h))
behind-none_by b c bs cs false e none more = refl

behind-none : (name word : List ℕ) → ((rest : List ℕ) → word ≢ name ++ rest) → behind name word ≡ None
behind-none [] word none = absurd (none word refl)
behind-none (b ∷ bs) [] none = refl
behind-none (b ∷ bs) (c ∷ cs) none = behind-none_by b c bs cs (b == c) refl none (behind-none bs cs)

pub behind_read : (name word : List ℕ) (found : Option (Bor (List ℕ))) → MatchOption found ((rest : List ℕ) → word ≢ name ++ rest) (λ x. word ≡ name ++ x.now)
    → option_map (λ (rest : Bor (List ℕ)). rest.now) found ≡ behind name word
behind_read name word None h = sym (behind-none name word h)
behind_read name word (Some rest) h = sym (ap (behind name) h ∙ behind-append name rest.now)

-- an option with its text
pub effects-with : (word : List ℕ) (words : List (List ℕ)) (kind : OptionKind) (text : List ℕ) → form_of word ≡ with_text kind text
    → effects_of (word ∷ words) ≡ (kind, text) ∷ effects_of words
unfolding effects_of
effects-with word [] kind text e = ap last_effects e
effects-with word (next ∷ words) kind text e = ap (λ f. effects_by f next (effects_of (next ∷ words)) (effects_of words)) e

-- an option whose text is the next word
pub effects-takes : (word next : List ℕ) (words : List (List ℕ)) (kind : OptionKind) → form_of word ≡ takes_next kind
    → effects_of (word ∷ next ∷ words) ≡ (kind, next) ∷ effects_of words
unfolding effects_of
effects-takes word next words kind e = ap (λ f. effects_by f next (effects_of (next ∷ words)) (effects_of words)) e

-- an option that lacks the next word
pub effects-lacks : (word : List ℕ) (kind : OptionKind) → form_of word ≡ takes_next kind → effects_of (word ∷ []) ≡ []
unfolding effects_of
effects-lacks word kind e = ap last_effects e

-- an option whose next word is passed over too
pub effects-skips : (word : List ℕ) (words : List (List ℕ)) → form_of word ≡ skips_next → effects_of (word ∷ words) ≡ effects_of (drop 1 words)
unfolding effects_of
effects-skips word [] e = ap last_effects e
effects-skips word (next ∷ words) e = ap (λ f. effects_by f next (effects_of (next ∷ words)) (effects_of words)) e

-- any other word
pub effects-other : (word : List ℕ) (words : List (List ℕ)) → form_of word ≡ other → effects_of (word ∷ words) ≡ effects_of words
unfolding effects_of
effects-other word [] e = ap last_effects e
effects-other word (next ∷ words) e = ap (λ f. effects_by f next (effects_of (next ∷ words)) (effects_of words)) e

-- the first effect, where it is that of the first word
pub first_with : (whole left : List (List ℕ)) (word slice : List ℕ) (behind' : List (List ℕ)) (kind : OptionKind) (text : List ℕ)
    → effects_of whole ≡ effects_of left → left ≡ word ∷ behind' → with_text kind text ≡ form_of slice → slice ≡ word
    → effects_of whole ≡ (kind, text) ∷ effects_of behind'
first_with whole left word slice behind' kind text same e f is =
    same ∙ ap effects_of e ∙ effects-with word behind' kind text (sym (f ∙ ap form_of is))

-- where its text is the next word
pub first_takes : (whole left : List (List ℕ)) (word slice : List ℕ) (behind' : List (List ℕ)) (kind : OptionKind) (next : List ℕ)
    (words : List (List ℕ)) → effects_of whole ≡ effects_of left → left ≡ word ∷ behind' → takes_next kind ≡ form_of slice → slice ≡ word
    → behind' ≡ next ∷ words → effects_of whole ≡ (kind, next) ∷ effects_of words
first_takes whole left word slice behind' kind next words same e f is more =
    same ∙ ap effects_of (e ∙ ap (λ xs. word ∷ xs) more) ∙ effects-takes word next words kind (sym (f ∙ ap form_of is))

pub first_lacks : (whole left : List (List ℕ)) (word slice : List ℕ) (behind' : List (List ℕ)) (kind : OptionKind)
    → effects_of whole ≡ effects_of left → left ≡ word ∷ behind' → takes_next kind ≡ form_of slice → slice ≡ word → behind' ≡ []
    → effects_of whole ≡ []
first_lacks whole left word slice behind' kind same e f is none =
    same ∙ ap effects_of (e ∙ ap (λ xs. word ∷ xs) none) ∙ effects-lacks word kind (sym (f ∙ ap form_of is))

-- and where the first word has none
pub first_skips : (whole left : List (List ℕ)) (word slice : List ℕ) (behind' next : List (List ℕ))
    → effects_of whole ≡ effects_of left → left ≡ word ∷ behind' → skips_next ≡ form_of slice → slice ≡ word → next ≡ drop 1 behind'
    → effects_of whole ≡ effects_of next
first_skips whole left word slice behind' next same e f is more =
    same ∙ ap effects_of e ∙ effects-skips word behind' (sym (f ∙ ap form_of is)) ∙ ap effects_of (sym more)

pub first_other : (whole left : List (List ℕ)) (word slice : List ℕ) (behind' : List (List ℕ))
    → effects_of whole ≡ effects_of left → left ≡ word ∷ behind' → other ≡ form_of slice → slice ≡ word → effects_of whole ≡ effects_of behind'
first_other whole left word slice behind' same e f is = same ∙ ap effects_of e ∙ effects-other word behind' (sym (f ∙ ap form_of is))

-- no word has no effect
pub none_left : (whole left : List (List ℕ)) → effects_of whole ≡ effects_of left → length left ≡ 0 → effects_of whole ≡ []
unfolding effects_of
none_left whole left same none = same ∙ ap effects_of (nil_from_length left none)
