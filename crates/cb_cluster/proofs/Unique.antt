-- Merges and classes have one answer, and agree.
use Rattle.std.proofs.Common.{◌≡◌, ℕ, ◌+◌, ◌-◌, ◌<◌, ◌≤◌, Bool, true, false, eqb, ltb, ◌&&◌, not, List, [], ◌∷◌, length, map, filter, get_or, refl, sym, ap, ◌∙◌, subst, inl, inr, zero, suc, arith, All}
use Rattle.std.specs.List.{flat_map, range_with_len}
use Rattle.std.proofs.lemmas.Bool.{cases_Bool, cases_order, cond-true, cond-false, or_parts, lt-ltb, ltb-true, ltb-false, eq-eqb, ne_eqb, false≢true}
use Rattle.std.proofs.lemmas.List.{length-map, same_lists, get_or_default}
use Rattle.std.proofs.lemmas.List.FromFn.{length-range_with_len}
use Rattle.std.proofs.lemmas.List.Elements.{All-nil, All-cons, All-head, All-tail, All-append}
use Rattle.cb_diverge.specs.declared.fraction.Fraction.{Fraction}
use Rattle.cb_diverge.specs.Distances.{is_less}
use Rattle.cb_cluster.specs.declared.link.Link.{Link}
use Rattle.cb_cluster.specs.declared.merge.Merge.{Merge}
use Rattle.cb_cluster.specs.Links.{pairs_with, pairs_of, linked, links_of, IsAt, IsPair}
use Rattle.cb_cluster.specs.Names.{singles, name_of, members, clusters_of, joined, left_name, right_name}
use Rattle.cb_cluster.specs.Merging.{IsDistance, comes_first, AreClosest, IsOneCluster, AreMerges, least_of, names_after, HeightsRise}
use Rattle.cb_cluster.specs.Chains.{here, AreClassNames, AreClasses}
use Rattle.cb_cluster.proofs.Joins.{IsGood, IsGood-singles, IsGood-joined, bridge_of, renamed, AreWithin-all, AreWithin-beyond, beyond_closest, class_names}
use Rattle.cb_cluster.proofs.Fewer.{between_before}

-- ---- heights

-- what holds of the distance of each link between two clusters
abbrev pub AllBetween : (Fraction → Type 0) → List Link → List ℕ → Type 0
AllBetween T links names = (k : ℕ) (l : Link) → IsAt links k l → left_name names l < right_name names l → T l.distance

AllBetween-joined : (T : Fraction → Type 0) (links : List Link) (names : List ℕ) (left right : ℕ) → 0 < right → AllBetween T links names → AllBetween T links (joined names left right)
AllBetween-joined T links names left right pos h k l at lt =
    h k l at (ltb-true (left_name names l) (right_name names l)
    (between_before names left right l pos (lt-ltb (left_name (joined names left right) l) (right_name (joined names left right) l) lt)))

height-holds : (T : Fraction → Type 0) (links : List Link) (names : List ℕ) (left right : ℕ) (height : Fraction) → AllBetween T links names
    → AreClosest links names left right height → T height
height-holds T links names left right height h c =
    let d = c.distance in
    let lt : left_name names d.link < right_name names d.link = (let a = c.apart in let e = d.joins.0 in let f = d.joins.1 in omega arith) in
    subst T d.is (h d.at d.link d.stands lt)

-- it holds of each later height
later : (T : Fraction → Type 0) (links : List Link) (names : List ℕ) (ms : List Merge) → AllBetween T links names → AreMerges links names ms → All (λ (m : Merge). T m.height) ms
later T links names [] h ms = All-nil (λ (m : Merge). T m.height)
later T links names (m ∷ ms) h a =
    All-cons (λ (m : Merge). T m.height) m ms (height-holds T links names a.0 a.1 m.height h a.2)
    (later T links (joined names a.0 a.1) ms (AllBetween-joined T links names a.0 a.1 (let lt = a.2.apart in omega arith) h) a.4)

pub heights_rise : (links : List Link) (names : List ℕ) (ms : List Merge) → AreMerges links names ms → HeightsRise ms
heights_rise links names [] a = tt
heights_rise links names (m ∷ ms) a =
    let T : Fraction → Type 0 = λ d. is_less d m.height ≡ false in
    let all : AllBetween T links names = λ k l at lt. (or_parts _ _ (a.2.least k l at lt)).0 in
    let pos : 0 < a.1 = (let lt = a.2.apart in omega arith) in
    (later T links (joined names a.0 a.1) ms (AllBetween-joined T links names a.0 a.1 pos all) a.4, heights_rise links (joined names a.0 a.1) ms a.4)

-- ---- one list of merges

same_number : (a b : ℕ) → ltb a b ≡ false → ltb b a ≡ false → a ≡ b
same_number a b h k = let p = ltb-false a b h in let q = ltb-false b a k in omega arith

not_second : (x y : Bool) → (not x && y) ≡ false → x ≡ false → y ≡ false
not_second true y h e = absurd (false≢true (sym e))
not_second false y h e = h

same_clusters : (d e : Fraction) (left right other_left other_right : ℕ) → comes_first d left right e other_left other_right ≡ false
    → comes_first e other_left other_right d left right ≡ false → (left ≡ other_left) × (right ≡ other_right)
same_clusters d e left right other_left other_right h k =
    let p = or_parts _ _ h in
    let q = or_parts _ _ k in
    let p' = or_parts _ _ (not_second (is_less e d) _ p.1 q.0) in
    let q' = or_parts _ _ (not_second (is_less d e) _ q.1 p.0) in
    (same_number left other_left p'.0 q'.0, same_number right other_right (not_second (ltb other_left left) _ p'.1 q'.0) (not_second (ltb left other_left) _ q'.1 p'.0))

-- what the closest clusters are to another link that stands between two
closest-least : (links : List Link) (names : List ℕ) (left right other_left other_right : ℕ) (height other : Fraction) → AreClosest links names left right height
    → AreClosest links names other_left other_right other → comes_first other other_left other_right height left right ≡ false
closest-least links names left right other_left other_right height other c o =
    let d = o.distance in
    let lt : left_name names d.link < right_name names d.link = (let a = o.apart in let e = d.joins.0 in let f = d.joins.1 in omega arith) in
    let h = c.least d.at d.link d.stands lt in
    ap (λ x. comes_first x other_left other_right height left right) (sym d.is)
    ∙ (ap (λ x. comes_first d.link.distance x other_right height left right) (sym d.joins.0)
    ∙ (ap (λ x. comes_first d.link.distance (left_name names d.link) x height left right) (sym d.joins.1) ∙ h))

earlier-distance : (links : List Link) (names : List ℕ) (left right : ℕ) (height other : Fraction) → (d : IsDistance links names left right height)
    → (o : IsDistance links names left right other) → d.at < o.at → ⊥
earlier-distance links names left right height other d o lt =
    false≢true (sym (ap (λ x. is_less x height) (sym o.is) ∙ d.least o.at o.link o.stands o.joins) ∙ (ap (is_less other) (sym d.is) ∙ o.first d.at d.link d.stands d.joins lt))

same-distance : (links : List Link) (names : List ℕ) (left right : ℕ) (height other : Fraction) → IsDistance links names left right height
    → IsDistance links names left right other → height ≡ other
same-distance links names left right height other d o =
    elim (cases_order d.at o.at) [
      | inl e ↦ (
          let one : get_or links d.at d.link ≡ d.link = d.stands.1 in
          let two : get_or links o.at o.link ≡ o.link = o.stands.1 in
          let same : d.link ≡ o.link = sym one ∙ (get_or_default links d.at d.link o.link d.stands.0 ∙ (ap (λ k. get_or links k o.link) e ∙ two)) in
          sym d.is ∙ (ap (λ (l : Link). l.distance) same ∙ o.is))
      | inr w ↦ absurd (elim w [ inl lt ↦ earlier-distance links names left right height other d o lt | inr gt ↦ earlier-distance links names left right other height o d gt ])
    ]

no_merge : (links : List Link) (names : List ℕ) (left right : ℕ) (height : Fraction) → IsOneCluster links names → AreClosest links names left right height → ⊥
no_merge links names left right height one c =
    let d = c.distance in
    let same = one d.at d.link d.stands in
    let lt = c.apart in
    let e = d.joins.0 in
    let f = d.joins.1 in
    omega arith

same_merge : (m n : Merge) → m.left ≡ n.left → m.right ≡ n.right → m.height ≡ n.height → m ≡ n
same_merge m n left right height =
    ap (λ (x : List ℕ). record m { left = x }) left ∙ (ap (λ (x : List ℕ). record n { right = x; height = m.height }) right ∙ ap (λ (x : Fraction). record n { height = x }) height)

pub one_list : (links : List Link) (names : List ℕ) (some other : List Merge) → AreMerges links names some → AreMerges links names other → some ≡ other
one_list links names [] [] a b = refl
one_list links names [] (n ∷ ns) a b = absurd (no_merge links names b.0 b.1 n.height a b.2)
one_list links names (m ∷ ms) [] a b = absurd (no_merge links names a.0 a.1 m.height b a.2)
one_list links names (m ∷ ms) (n ∷ ns) a b =
    let same = same_clusters m.height n.height a.0 a.1 b.0 b.1 (closest-least links names b.0 b.1 a.0 a.1 n.height m.height b.2 a.2)
    (closest-least links names a.0 a.1 b.0 b.1 m.height n.height a.2 b.2) in
    let moved : AreClosest links names a.0 a.1 n.height = subst (λ (x : ℕ). AreClosest links names a.0 x n.height) (sym same.1) (subst (λ (x : ℕ). AreClosest links names x b.1 n.height) (sym same.0) b.2) in
    let heights : m.height ≡ n.height = same-distance links names a.0 a.1 m.height n.height a.2.distance moved.distance in
    let lefts : m.left ≡ n.left = a.3.0 ∙ (ap (members names) same.0 ∙ sym b.3.0) in
    let rights : m.right ≡ n.right = a.3.1 ∙ (ap (members names) same.1 ∙ sym b.3.1) in
    let here : m ≡ n = same_merge m n lefts rights heights in
    let rest : AreMerges links (joined names a.0 a.1) ns
    = subst (λ (x : ℕ). AreMerges links (joined names a.0 x) ns) (sym same.1) (subst (λ (x : ℕ). AreMerges links (joined names x b.1) ns) (sym same.0) b.4) in
    ap (λ (x : Merge). x ∷ ms) here ∙ ap (λ xs. n ∷ xs) (one_list links (joined names a.0 a.1) ms ns a.4 rest)

-- ---- one list of classes

pub one_names : (links : List Link) (count : ℕ) (h : Fraction) (some other : List ℕ) → AreClassNames links count h some → AreClassNames links count h other → some ≡ other
one_names links count h some other a b =
    same_lists some other (a.each ∙ sym b.each)
    (λ k d lt.
    let n = a.each in
    let m = b.each in
    let p : 0 < k + 1 = omega arith in
    let q : k + 1 ≤ count = omega arith in
    let one = a.least (k + 1) (name_of other (k + 1)) p q (b.within (k + 1) p q) (omega (arith, b.least (k + 1) (k + 1) p q p q (here (k + 1)))) (b.chained (k + 1) p q) in
    let two = b.least (k + 1) (name_of some (k + 1)) p q (a.within (k + 1) p q) (omega (arith, a.least (k + 1) (k + 1) p q p q (here (k + 1)))) (a.chained (k + 1) p q) in
    let same : name_of some (k + 1) ≡ name_of other (k + 1) = omega arith in
    let e : k + 1 - 1 ≡ k = omega arith in
    get_or_default some k d 0 lt ∙ (ap (λ i. get_or some i 0) (sym e) ∙ (same ∙ (ap (λ i. get_or other i 0) e ∙ get_or_default other k 0 d (omega arith)))))

pub one_classes : (links : List Link) (count : ℕ) (h : Fraction) (some other : List (List ℕ)) → AreClasses links count h some → AreClasses links count h other → some ≡ other
one_classes links count h some other a b = a.2 ∙ (ap clusters_of (one_names links count h a.0 b.0 a.1 b.1) ∙ sym b.2)

-- ---- merges and classes agree

least-filter : (p : ℕ → Bool) (a n x : ℕ) → a ≤ x → x < a + n → p x ≡ true → ((q : ℕ) → a ≤ q → q < x → p q ≡ false) → least_of (filter p (range_with_len a n)) ≡ x
least-filter p a zero x low high is none = absurd (omega arith)
least-filter p a (suc n) x low high is none =
    elim (cases_order a x) [
      | inl e ↦ ap least_of (cond-true (p a) (a ∷ filter p (range_with_len (a + 1) n)) (filter p (range_with_len (a + 1) n)) (ap p e ∙ is)) ∙ e
      | inr w ↦ (
          let lt : a < x = elim w [ inl k ↦ k | inr k ↦ absurd (omega arith) ] in
          ap least_of (cond-false (p a) (a ∷ filter p (range_with_len (a + 1) n)) (filter p (range_with_len (a + 1) n)) (none a (omega arith) lt))
          ∙ least-filter p (a + 1) n x (omega arith) (omega arith) is (λ q ge less. none q (omega arith) less))
    ]

least-members : (links : List Link) (h : Fraction) (names : List ℕ) (cluster : ℕ) → IsGood links h names → 0 < cluster → cluster ≤ length names → name_of names cluster ≡ cluster
    → least_of (members names cluster) ≡ cluster
least-members links h names cluster good pos within own =
    least-filter (λ q. eqb (name_of names q) cluster) 1 (length names) cluster pos (omega arith) (eq-eqb (name_of names cluster) cluster own)
    (λ q ge lt. ne_eqb (name_of names q) cluster (λ e. let k = good.below q ge (omega arith) in omega arith))

skipped : (h : Fraction) (names : List ℕ) (ms : List Merge) → All (λ (m : Merge). is_less h m.height ≡ true) ms → names_after h names ms ≡ names
skipped h names [] all = refl
skipped h names (m ∷ ms) all =
    cond-true (is_less h m.height) (names_after h names ms) (names_after h (joined names (least_of m.left) (least_of m.right)) ms)
    (All-head (λ (m : Merge). is_less h m.height ≡ true) m ms all)
    ∙ skipped h names ms (All-tail (λ (m : Merge). is_less h m.height ≡ true) m ms all)

agree_names : (links : List Link) (h : Fraction) (names : List ℕ) (count : ℕ) (ms : List Merge) → length names ≡ count → All (IsPair count) links → IsGood links h names
    → AreMerges links names ms → AreClassNames links count h (names_after h names ms)
agree_names links h names count [] each pairs good a = class_names links h names count each good (AreWithin-all links h names a)
agree_names links h names count (m ∷ ms) each pairs good a =
    let left = a.0 in
    let right = a.1 in
    let c = a.2 in
    let lt = c.apart in
    let on = names_after h (joined names (least_of m.left) (least_of m.right)) ms in
    elim (cases_Bool (is_less h m.height)) [
      | inl above ↦ (
          let beyond = beyond_closest links h names left right m.height c above in
          let all = later (λ d. is_less h d ≡ true) links names (m ∷ ms) beyond a in
          subst (AreClassNames links count h) (sym (skipped h names (m ∷ ms) all))
          (class_names links h names count each good (AreWithin-beyond links h names beyond)))
      | inr short ↦ (
          let here : All (IsPair (length names)) links = subst (λ (n : ℕ). All (IsPair n) links) (sym each) pairs in
          let bridge = bridge_of links h names left right m.height here c.distance short in
          let left_own : name_of names left ≡ left = ap (name_of names) (sym bridge.to_left) ∙ (good.own bridge.to bridge.to_some bridge.to_within ∙ bridge.to_left) in
          let right_own : name_of names right ≡ right = ap (name_of names) (sym bridge.from_right) ∙ (good.own bridge.from bridge.from_some bridge.from_within ∙ bridge.from_right) in
          let left_low : 0 < left = (let k = good.low bridge.to bridge.to_some bridge.to_within in let e = bridge.to_left in omega arith) in
          let left_in : left ≤ length names = (let k = good.below bridge.to bridge.to_some bridge.to_within in let e = bridge.to_left in let w = bridge.to_within in omega arith) in
          let right_in : right ≤ length names = (let k = good.below bridge.from bridge.from_some bridge.from_within in let e = bridge.from_right in let w = bridge.from_within in omega arith) in
          let one : least_of m.left ≡ left = ap least_of a.3.0 ∙ least-members links h names left good left_low left_in left_own in
          let two : least_of m.right ≡ right = ap least_of a.3.1 ∙ least-members links h names right good (omega arith) right_in right_own in
          let same : names_after h names (m ∷ ms) ≡ names_after h (joined names left right) ms
          = cond-false (is_less h m.height) (names_after h names ms) on short
          ∙ (ap (λ x. names_after h (joined names x (least_of m.right)) ms) one ∙ ap (λ x. names_after h (joined names left x) ms) two) in
          subst (AreClassNames links count h) (sym same)
          (agree_names links h (joined names left right) count ms (length-map names (renamed left right) ∙ each) pairs (IsGood-joined links h names left right lt good bridge) a.4))
    ]

-- ---- all pairs are pairs of platforms

linked_pairs : (count : ℕ) (ps : List (ℕ × ℕ)) (ds : List Fraction) → All (λ (p : ℕ × ℕ). (0 < p.0) × (p.0 < p.1) × (p.1 ≤ count)) ps → All (IsPair count) (linked ps ds)
linked_pairs count [] ds all = All-nil (IsPair count)
linked_pairs count (p ∷ ps) [] all = All-nil (IsPair count)
linked_pairs count (p ∷ ps) (d ∷ ds) all =
    All-cons (IsPair count) (record { left = p.0; right = p.1; distance = d }) (linked ps ds)
    (All-head (λ (p : ℕ × ℕ). (0 < p.0) × (p.0 < p.1) × (p.1 ≤ count)) p ps all)
    (linked_pairs count ps ds (All-tail (λ (p : ℕ × ℕ). (0 < p.0) × (p.0 < p.1) × (p.1 ≤ count)) p ps all))

row_pairs : (count left right n : ℕ) → 0 < left → left < right → right + n ≤ count + 1
    → All (λ (p : ℕ × ℕ). (0 < p.0) × (p.0 < p.1) × (p.1 ≤ count)) (map (λ j. (left, j)) (range_with_len right n))
row_pairs count left right zero pos lt le = All-nil (λ (p : ℕ × ℕ). (0 < p.0) × (p.0 < p.1) × (p.1 ≤ count))
row_pairs count left right (suc n) pos lt le =
    All-cons (λ (p : ℕ × ℕ). (0 < p.0) × (p.0 < p.1) × (p.1 ≤ count)) (left, right) (map (λ j. (left, j)) (range_with_len (right + 1) n)) (pos, lt, omega arith)
    (row_pairs count left (right + 1) n pos (omega arith) (omega arith))

all_pairs : (count left n : ℕ) → 0 < left → left + n ≤ count + 1
    → All (λ (p : ℕ × ℕ). (0 < p.0) × (p.0 < p.1) × (p.1 ≤ count)) (flat_map (pairs_with count) (range_with_len left n))
all_pairs count left zero pos le = All-nil (λ (p : ℕ × ℕ). (0 < p.0) × (p.0 < p.1) × (p.1 ≤ count))
all_pairs count left (suc n) pos le =
    All-append (λ (p : ℕ × ℕ). (0 < p.0) × (p.0 < p.1) × (p.1 ≤ count)) (pairs_with count left) (flat_map (pairs_with count) (range_with_len (left + 1) n))
    (row_pairs count left (left + 1) (count - left) pos (omega arith) (omega arith))
    (all_pairs count (left + 1) n (omega arith) (omega arith))

pub agree : (count : ℕ) (pairs : List Fraction) (h : Fraction) (ms : List Merge) (classes : List (List ℕ)) → AreMerges (links_of count pairs) (singles count) ms
    → AreClasses (links_of count pairs) count h classes → classes ≡ clusters_of (names_after h (singles count) ms)
agree count pairs h ms classes a b =
    let links = links_of count pairs in
    let within : All (IsPair count) links = linked_pairs count (pairs_of count) pairs (all_pairs count 1 count (omega arith) (omega arith)) in
    b.2 ∙ ap clusters_of (one_names links count h b.0 (names_after h (singles count) ms) b.1
    (agree_names links h (singles count) count ms (length-range_with_len 1 count) within (IsGood-singles links h count) a))
