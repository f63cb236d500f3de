-- The items of a list are written one after another, with a join text between each two.
use Rattle.std.proofs.Common.{◌≡◌, ◌<◌, ◌+◌, ℕ, zero, suc, List, [], ◌∷◌, ◌++◌, Option, length, take, drop, get_or, map, refl, sym, ap, subst, ◌∙◌, arith, append-nil, append_assoc}
use Rattle.std.specs.List.{flat_map}
use Rattle.std.proofs.lemmas.List.{take_more}
use Rattle.htl_syntax.specs.declared.expression.Context.{Context}
use Rattle.htl_expr.specs.declared.room.WriteFault.{WriteFault}
use Rattle.htl_expr.specs.Print.{concatenation, in_context}
use Rattle.htl_expr.specs.Writing.{Begins, IsStopped}
use Rattle.htl_expr.proofs.EscapeLemmas.{in_context_append}
use Rattle.htl_expr.proofs.Writing.{begins_later, longer}

abbrev further : {X : Type 0} → List ℕ → (X → List ℕ) → List X → List ℕ
further join f xs = flat_map (λ next. join ++ next) (map f xs)

further_push : {X : Type 0} (join : List ℕ) (f : X → List ℕ) (ts : List X) (x : X) → further join f (ts ++ x ∷ []) ≡ further join f ts ++ (join ++ f x)
further_push join f [] x = append-nil (join ++ f x)
further_push join f (t ∷ ts) x = ap (λ (l : List ℕ). (join ++ f t) ++ l) (further_push join f ts x) ∙ sym (append_assoc (join ++ f t) (further join f ts) (join ++ f x))

further_prefix : {X : Type 0} (join : List ℕ) (f : X → List ℕ) (n : ℕ) (xs : List X) → further join f xs ≡ further join f (take n xs) ++ further join f (drop n xs)
further_prefix join f zero xs = refl
further_prefix join f (suc n) [] = refl
further_prefix join f (suc n) (x ∷ xs) = ap (λ (l : List ℕ). (join ++ f x) ++ l) (further_prefix join f n xs) ∙ sym (append_assoc (join ++ f x) (further join f (take n xs)) (further join f (drop n xs)))

joined_push : {X : Type 0} (join before : List ℕ) (f : X → List ℕ) (ts : List X) (x : X) → (length ts ≡ 0 → before ≡ []) → (0 < length ts → before ≡ join)
    → concatenation join (map f (ts ++ x ∷ [])) ≡ concatenation join (map f ts) ++ (before ++ f x)
joined_push join before f [] x none some = append-nil (f x) ∙ sym (ap (λ (l : List ℕ). l ++ f x) (none refl))
joined_push join before f (t ∷ ts) x none some =
    let is = some (omega arith) in
    rw is (ap (λ (l : List ℕ). f t ++ l) (further_push join f ts x) ∙ sym (append_assoc (f t) (further join f ts) (join ++ f x)))

joined_prefix : {X : Type 0} (join : List ℕ) (f : X → List ℕ) (n : ℕ) (xs : List X) → Begins (concatenation join (map f (take n xs))) (concatenation join (map f xs))
joined_prefix join f zero xs = record { rest = concatenation join (map f xs); parts = refl }
joined_prefix join f (suc n) [] = record { rest = []; parts = refl }
joined_prefix join f (suc n) (x ∷ xs) = record { rest = further join f (drop n xs); parts = ap (λ (l : List ℕ). f x ++ l) (further_prefix join f n xs) ∙ sym (append_assoc (f x) (further join f (take n xs)) (further join f (drop n xs))) }

taken : {X : Type 0} (i : ℕ) (xs : List X) → i < length xs → length (take i xs) ≡ i
taken zero xs lt = refl
taken (suc i) [] lt = absurd (omega (arith, lt))
taken (suc i) (x ∷ xs) lt = ap suc (taken i xs (omega (arith, lt)))

joined_more : {X : Type 0} (join before : List ℕ) (f : X → List ℕ) (xs : List X) (i : ℕ) (d : X) → i < length xs → (i ≡ 0 → before ≡ []) → (0 < i → before ≡ join)
    → concatenation join (map f (take (i + 1) xs)) ≡ concatenation join (map f (take i xs)) ++ (before ++ f (get_or xs i d))
joined_more join before f xs i d lt none some =
    let n = taken i xs lt in
    rw (take_more xs i d lt) (joined_push join before f (take i xs) (get_or xs i d) (λ e. none (sym n ∙ e)) (λ l. some (rw n at l)))

-- one item more is written
pub item_written : {X : Type 0} (context : Option Context) (join before old mid new : List ℕ) (f : X → List ℕ) (xs : List X) (i : ℕ) (d : X) → i < length xs → (i ≡ 0 → before ≡ []) → (0 < i → before ≡ join)
    → mid ≡ old ++ in_context context (concatenation join (map f (take i xs))) → new ≡ mid ++ in_context context (before ++ f (get_or xs i d)) → new ≡ old ++ in_context context (concatenation join (map f (take (i + 1) xs)))
item_written context join before old mid new f xs i d lt none some m e =
    let leading = in_context context (concatenation join (map f (take i xs))) in
    let item = in_context context (before ++ f (get_or xs i d)) in
    e ∙ ap (λ (l : List ℕ). l ++ item) m ∙ append_assoc old leading item ∙ ap (λ (l : List ℕ). old ++ l) (sym (in_context_append context (concatenation join (map f (take i xs))) (before ++ f (get_or xs i d))) ∙ ap (in_context context) (sym (joined_more join before f xs i d lt none some)))

-- an item doesn't fit
pub item_stops : {X : Type 0} (most : ℕ) (fault : WriteFault) (context : Option Context) (join before old mid new : List ℕ) (f : X → List ℕ) (xs : List X) (i : ℕ) (d : X) → i < length xs → (i ≡ 0 → before ≡ []) → (0 < i → before ≡ join)
    → mid ≡ old ++ in_context context (concatenation join (map f (take i xs))) → IsStopped most fault mid (in_context context (before ++ f (get_or xs i d))) new → IsStopped most fault old (in_context context (concatenation join (map f xs))) new
item_stops most fault context join before old mid new f xs i d lt none some m w =
    let item = in_context context (before ++ f (get_or xs i d)) in
    let same = item_written context join before old mid (mid ++ item) f xs i d lt none some m refl in
    let b = joined_prefix join f (i + 1) xs in
    let parts = ap (in_context context) b.parts ∙ in_context_append context (concatenation join (map f (take (i + 1) xs))) b.rest in (
      begins_later old mid new (record { rest = in_context context (concatenation join (map f (take i xs))); parts = m }) w.0,
      λ known. let y = w.1 known in (y.0, longer most old (in_context context (concatenation join (map f (take (i + 1) xs)))) (in_context context b.rest) (in_context context (concatenation join (map f xs))) parts (rw same at y.1)),
    )

pub item_written_is : {X : Type 0} (context : Option Context) (join before old mid new : List ℕ) (f : X → List ℕ) (xs : List X) (i : ℕ) (x : X) → i < length xs → x ≡ get_or xs i x → (i ≡ 0 → before ≡ []) → (0 < i → before ≡ join)
    → mid ≡ old ++ in_context context (concatenation join (map f (take i xs))) → new ≡ mid ++ in_context context (before ++ f x) → new ≡ old ++ in_context context (concatenation join (map f (take (i + 1) xs)))
item_written_is context join before old mid new f xs i x lt is none some m e =
    item_written context join before old mid new f xs i x lt none some m (subst (λ y. new ≡ mid ++ in_context context (before ++ f y)) is e)

pub item_stops_is : {X : Type 0} (most : ℕ) (fault : WriteFault) (context : Option Context) (join before old mid new : List ℕ) (f : X → List ℕ) (xs : List X) (i : ℕ) (x : X) → i < length xs → x ≡ get_or xs i x → (i ≡ 0 → before ≡ []) → (0 < i → before ≡ join)
    → mid ≡ old ++ in_context context (concatenation join (map f (take i xs))) → IsStopped most fault mid (in_context context (before ++ f x)) new → IsStopped most fault old (in_context context (concatenation join (map f xs))) new
item_stops_is most fault context join before old mid new f xs i x lt is none some m w =
    item_stops most fault context join before old mid new f xs i x lt none some m (subst (λ y. IsStopped most fault mid (in_context context (before ++ f y)) new) is w)
