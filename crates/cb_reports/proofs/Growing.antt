-- Texts of lists with one item more.
use Rattle.std.proofs.Common.{◌≡◌, ℕ, ◌+◌, ◌<◌, List, [], ◌∷◌, ◌++◌, length, map, get_or, take, sym, ap, ◌∙◌, suc, arith, eqb, codes}
use Rattle.std.specs.List.{flat_map}
use Rattle.std.proofs.lemmas.Bool.{cond-false, ne_eqb}
use Rattle.std.proofs.lemmas.List.{append-nil, append_assoc, take_more, length-take-le, length-map, map-append}
use Rattle.std.proofs.lemmas.List.Concat.{flat_map-append}
use Rattle.cb_reports.specs.Inner.{separator}
use Rattle.cb_reports.specs.Words.{listed, numbered}

numbered-append : {A : Type 0} (f : ℕ → A → List ℕ) (n : ℕ) (xs ys : List A) → numbered f n (xs ++ ys) ≡ numbered f n xs ++ numbered f (n + length xs) ys
numbered-append f n [] ys = let e : n ≡ n + 0 = omega arith in ap (λ k. numbered f k ys) e
numbered-append f n (x ∷ xs) ys =
    let e : n + 1 + length xs ≡ n + suc (length xs) = omega arith in
    ap (λ r. f n x ++ r) (numbered-append f (n + 1) xs ys ∙ ap (λ k. numbered f (n + 1) xs ++ numbered f k ys) e)
    ∙ sym (append_assoc (f n x) (numbered f (n + 1) xs) (numbered f (n + suc (length xs)) ys))

pub numbered_more : {A : Type 0} (f : ℕ → A → List ℕ) (n : ℕ) (xs : List A) (i : ℕ) (d : A) → i < length xs
    → numbered f n (take (i + 1) xs) ≡ numbered f n (take i xs) ++ f (n + i) (get_or xs i d)
numbered_more f n xs i d h =
    let len : length (take i xs) ≡ i = length-take-le i xs (omega arith) in
    ap (numbered f n) (take_more xs i d h) ∙ numbered-append f n (take i xs) (get_or xs i d ∷ [])
    ∙ ap (λ r. numbered f n (take i xs) ++ r) (append-nil (f (n + length (take i xs)) (get_or xs i d)) ∙ ap (λ k. f (n + k) (get_or xs i d)) len)

separator-later : (n : ℕ) → separator (suc n) ≡ codes ", "
separator-later n = cond-false (eqb (suc n) 0) [] (codes ", ") (ne_eqb (suc n) 0 (λ e. omega arith))

pub listed_push : (ts : List (List ℕ)) (t : List ℕ) → listed (ts ++ t ∷ []) ≡ listed ts ++ (separator (length ts) ++ t)
listed_push [] t = append-nil t
listed_push (u ∷ us) t =
    let g : List ℕ → List ℕ = λ v. codes ", " ++ v in
    ap (λ r. u ++ r) (flat_map-append g us (t ∷ []) ∙ ap (λ r. flat_map g us ++ r) (append-nil (g t) ∙ ap (λ r. r ++ t) (sym (separator-later (length us)))))
    ∙ sym (append_assoc u (flat_map g us) (separator (suc (length us)) ++ t))

pub listed_more : (f : ℕ → List ℕ) (xs : List ℕ) (i : ℕ) (d : ℕ) → i < length xs
    → listed (map f (take (i + 1) xs)) ≡ listed (map f (take i xs)) ++ (separator i ++ f (get_or xs i d))
listed_more f xs i d h =
    let len : length (map f (take i xs)) ≡ i = length-map (take i xs) f ∙ length-take-le i xs (omega arith) in
    ap (λ ys. listed (map f ys)) (take_more xs i d h) ∙ ap listed (map-append f (take i xs) (get_or xs i d ∷ []))
    ∙ listed_push (map f (take i xs)) (f (get_or xs i d))
    ∙ ap (λ k. listed (map f (take i xs)) ++ (separator k ++ f (get_or xs i d))) len

-- a text that grows by the text of the next item with its number
pub numbered_grows : {A : Type 0} (f : ℕ → A → List ℕ) (start old text : List ℕ) (xs : List A) (i : ℕ) (x : A) → i < length xs → x ≡ get_or xs i x
    → old ≡ start ++ numbered f 1 (take i xs) → text ≡ old ++ f (i + 1) x → text ≡ start ++ numbered f 1 (take (i + 1) xs)
numbered_grows f start old text xs i x h read so_far adds =
    let e : i + 1 ≡ 1 + i = omega arith in
    adds ∙ ap (λ r. r ++ f (i + 1) x) so_far ∙ append_assoc start (numbered f 1 (take i xs)) (f (i + 1) x)
    ∙ ap (λ r. start ++ r) (ap (λ k. numbered f 1 (take i xs) ++ f k x) e ∙ ap (λ y. numbered f 1 (take i xs) ++ f (1 + i) y) read ∙ sym (numbered_more f 1 xs i x h))

-- a list of names that grows by a name
pub listed_grows : (f : ℕ → List ℕ) (start old between text : List ℕ) (xs : List ℕ) (i : ℕ) → i < length xs
    → old ≡ start ++ listed (map f (take i xs)) → between ≡ old ++ separator i → text ≡ between ++ f (get_or xs i 0)
    → text ≡ start ++ listed (map f (take (i + 1) xs))
listed_grows f start old between text xs i h so_far adds more =
    let name = f (get_or xs i 0) in
    more ∙ ap (λ r. r ++ name) (adds ∙ ap (λ r. r ++ separator i) so_far) ∙ append_assoc (start ++ listed (map f (take i xs))) (separator i) name
    ∙ append_assoc start (listed (map f (take i xs))) (separator i ++ name) ∙ ap (λ r. start ++ r) (sym (listed_more f xs i 0 h))

-- joined names that grow by the next one
pub joined_grows : (start old between text : List ℕ) (xs : List (List ℕ)) (i : ℕ) (x : List ℕ) → i < length xs → x ≡ get_or xs i x
    → old ≡ start ++ listed (take i xs) → between ≡ old ++ separator i → text ≡ between ++ x → text ≡ start ++ listed (take (i + 1) xs)
joined_grows start old between text xs i x h read so_far adds more =
    let len : length (take i xs) ≡ i = length-take-le i xs (omega arith) in
    let next : take (i + 1) xs ≡ take i xs ++ x ∷ [] = take_more xs i x h ∙ ap (λ y. take i xs ++ y ∷ []) (sym read) in
    more ∙ ap (λ r. r ++ x) (adds ∙ ap (λ r. r ++ separator i) so_far) ∙ append_assoc (start ++ listed (take i xs)) (separator i) x
    ∙ append_assoc start (listed (take i xs)) (separator i ++ x)
    ∙ ap (λ r. start ++ r) (ap (λ k. listed (take i xs) ++ (separator k ++ x)) (sym len) ∙ sym (ap listed next ∙ listed_push (take i xs) x))
