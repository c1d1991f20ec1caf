-- The spellings of tokens up to the first >, step by step.
use Rattle.std.proofs.Common.{◌≡◌, ℕ, ◌+◌, ◌<◌, ◌≤◌, Bool, true, false, List, [], ◌∷◌, ◌++◌, length, drop, get_or, refl, sym, ap, ◌∙◌, append_assoc, add-one, if◌then◌else◌, bytes_eq}
use Rattle.std.specs.Prelude.{Option, Some, None, codes}
use Rattle.std.specs.Option.{option_map}
use Prim.Native.Nat.{suc}
use Rattle.std.proofs.Math.Seq.{drop-cons}
use Rattle.std.proofs.lemmas.List.{drop_all}
use Rattle.cb_tokens.specs.declared.token.Token.{Token}
use Rattle.cb_pass.specs.Headers.{up_to_greater, space_before}

-- what the tokens from a place on give, behind a text
abbrev pub From : List ℕ → ℕ → List Token → Option (List ℕ)
From text i tokens = option_map (λ more. text ++ more) (up_to_greater (drop i tokens))

nothing_before : (o : Option (List ℕ)) → option_map (λ more. [] ++ more) o ≡ o
nothing_before None = refl
nothing_before (Some text) = refl

pub begins : (text : List ℕ) (tokens : List Token) → text ≡ [] → From text 0 tokens ≡ up_to_greater tokens
begins text tokens e = rw e (nothing_before (up_to_greater tokens))

at : (tokens : List Token) (i : ℕ) (t : Token) → i < length tokens → t ≡ get_or tokens i t → drop i tokens ≡ t ∷ drop (i + 1) tokens
at tokens i t lt e = rw add-one (drop-cons tokens i t lt ∙ ap (λ (x : Token). x ∷ drop (suc i) tokens) (sym e))

one_more : (test : Bool) (text spaced word all : List ℕ) (more : Option (List ℕ)) → test ≡ false → all ≡ (text ++ spaced) ++ word
    → option_map (λ rest. text ++ rest) (if test then Some spaced else option_map (λ rest. spaced ++ word ++ rest) more) ≡ option_map (λ rest. all ++ rest) more
one_more true text spaced word all more e h = absurd cc
one_more false text spaced word all None e h = refl
one_more false text spaced word all (Some rest) e h =
    rw h (ap Some (ap (λ x. text ++ x) (append_assoc spaced word rest) ∙ (sym (append_assoc text spaced (word ++ rest)) ∙ sym (append_assoc (text ++ spaced) word rest))))

pub goes_on : (tokens : List Token) (i : ℕ) (t : Token) (text spaced all : List ℕ) (whole : Option (List ℕ)) → i < length tokens → t ≡ get_or tokens i t
    → bytes_eq t.text (codes ">") ≡ false → spaced ≡ text ++ space_before t → all ≡ spaced ++ t.text
    → From text i tokens ≡ whole → From all (i + 1) tokens ≡ whole
goes_on tokens i t text spaced all whole lt e test p q known =
    sym (one_more (bytes_eq t.text (codes ">")) text (space_before t) t.text all (up_to_greater (drop (i + 1) tokens)) test (q ∙ ap (λ x. x ++ t.text) p))
    ∙ (ap (λ ts. option_map (λ more. text ++ more) (up_to_greater ts)) (sym (at tokens i t lt e)) ∙ known)

last : (test : Bool) (text spaced : List ℕ) (more : Option (List ℕ)) → test ≡ true → option_map (λ rest. text ++ rest) (if test then Some spaced else more) ≡ Some (text ++ spaced)
last true text spaced more e = refl
last false text spaced more e = absurd cc

pub ends : (tokens : List Token) (i : ℕ) (t : Token) (text spaced : List ℕ) (whole : Option (List ℕ)) → i < length tokens → t ≡ get_or tokens i t
    → bytes_eq t.text (codes ">") ≡ true → spaced ≡ text ++ space_before t → From text i tokens ≡ whole → Some spaced ≡ whole
ends tokens i t text spaced whole lt e test p known =
    ap Some p
    ∙ (sym (last (bytes_eq t.text (codes ">")) text (space_before t) (option_map (λ rest. space_before t ++ t.text ++ rest) (up_to_greater (drop (i + 1) tokens))) test)
    ∙ (ap (λ ts. option_map (λ more. text ++ more) (up_to_greater ts)) (sym (at tokens i t lt e)) ∙ known))

none_left : (tokens : List Token) (i : ℕ) → length tokens ≤ i → drop i tokens ≡ []
none_left tokens i h = drop_all i tokens h

pub over : (tokens : List Token) (i : ℕ) (text : List ℕ) (whole : Option (List ℕ)) → length tokens ≤ i → From text i tokens ≡ whole → None ≡ whole
over tokens i text whole h known = ap (λ ts. option_map (λ more. text ++ more) (up_to_greater ts)) (sym (none_left tokens i h)) ∙ known

pub tested : (result : Bool) (a b text other : List ℕ) (value : Bool) → result ≡ bytes_eq a b → a ≡ text → b ≡ other → result ≡ value → bytes_eq text other ≡ value
tested result a b text other value e f g h = sym (e ∙ (ap (λ x. bytes_eq x b) f ∙ ap (λ y. bytes_eq text y) g)) ∙ h
