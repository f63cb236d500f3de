-- Members by their names, and the values of members.
use Rattle.std.proofs.Common.{◌≡◌, ◌≢◌, ◌⊎◌, inl, inr, ℕ, Bool, true, false, cond, List, [], ◌∷◌, ◌++◌, Option, Some, None, Ok, Err, refl, ap, sym, ◌∙◌, subst, append_assoc}
use Rattle.std.specs.Cmp.Lexicographic.{same_text}
use Rattle.std.specs.List.{AllZip}
use Rattle.std.proofs.lemmas.Slice.Eq.{bytes_eq-Decides}
use Rattle.std.proofs.lemmas.List.{append-nil}
use Rattle.sp_base.specs.Outcomes.{◌>>=◌}
use Rattle.any_config.specs.Farms.{FarmOutcome, is_member_name, member_value, group_in, group_of, member_word_in, member_word, or_missing, needed_group, group_or_none, optional_group, each_after, each, decimal, or_bad, number_or_zero, member_number}
use Rattle.any_config.specs.Read.{Members}
use Rattle.any_config.specs.declared.node.AnyNode.{AnyNode, out-AnyNode}
use Rattle.any_config.specs.declared.node.AnyNode.TheOpen.{AnyNode-F}
use Rattle.rule_laws.specs.FarmTable.{LacksMember, HasMember, IsGroup, IsWord, HasGroup, HasNumber}

-- ---- steps

pub bind_found : {A B : Type 0} (m : FarmOutcome A) (f : A → FarmOutcome B) (y : B) → (m >>= f) ≡ Ok y → (x : A) × (m ≡ Ok x) × (f x ≡ Ok y)
bind_found (Ok x) f y e = (x, refl, e)
bind_found (Err fault) f y e = absurd cc

pub bind_only : {A B : Type 0} (m : FarmOutcome A) (f : A → FarmOutcome B) (x : A) (y : B) → m ≡ Ok x → f x ≡ Ok y → (m >>= f) ≡ Ok y
bind_only m f x y e g = ap (λ o. o >>= f) e ∙ g

pub ok_is : {A : Type 0} (x y : A) → ◌≡◌ {A = FarmOutcome A} (Ok x) (Ok y) → x ≡ y
ok_is x y e = cc

-- ---- names

named_is : (name text : List ℕ) → is_member_name name text ≡ true → text ≡ name
named_is name text e = same_text text name (sym e)

named_self : (name : List ℕ) → is_member_name name name ≡ true
named_self name = (bytes_eq-Decides name name).1 refl

pub named_not : (name text : List ℕ) → text ≢ name → is_member_name name text ≡ false
named_not name text other = go (is_member_name name text) refl
  where
    go : (x : Bool) → is_member_name name text ≡ x → x ≡ false
    go true e = absurd (other (named_is name text e))
    go false e = refl

pub not_named : (name text : List ℕ) → is_member_name name text ≡ false → text ≢ name
not_named name text e same = let f : is_member_name name text ≡ true = ap (is_member_name name) same ∙ named_self name in let g : true ≡ false = sym f ∙ e in absurd cc

-- ---- members

pub member_found : (name : List ℕ) (ms : Members) (value : AnyNode) → member_value name ms ≡ Some value → HasMember ms name value
member_found name [] value e = absurd cc
member_found name (m ∷ ms) value e = go (is_member_name name m.0) refl (λ f. member_found name ms value f) e
  where
    some_is : (one other : AnyNode) → ◌≡◌ {A = Option AnyNode} (Some one) (Some other) → one ≡ other
    some_is one other g = cc

    go : (x : Bool) → is_member_name name m.0 ≡ x → (member_value name ms ≡ Some value → HasMember ms name value) → cond x (Some m.1) (member_value name ms) ≡ Some value → HasMember (m ∷ ms) name value
    go true is ih f =
        let same = some_is m.1 value f in
        let here : m ≡ (name, value) = ap (λ (n : List ℕ). (let p : List ℕ × AnyNode = (n, m.1) in p)) (named_is name m.0 is) ∙ ap (λ (v : AnyNode). (let p : List ℕ × AnyNode = (name, v) in p)) same in
        record { before = []; after = ms; is = ap (λ (p : List ℕ × AnyNode). p ∷ ms) here; first = tt }
    go false is ih f = let h = ih f in record { before = m ∷ h.before; after = h.after; is = ap (λ (rest : Members). m ∷ rest) h.is; first = (not_named name m.0 is, h.first) }

passes : (name : List ℕ) (before rest : Members) → LacksMember before name → member_value name (before ++ rest) ≡ member_value name rest
passes name [] rest lacks = refl
passes name (m ∷ before) rest lacks = rw (named_not name m.0 lacks.0) (passes name before rest lacks.1)

pub member_only : (name : List ℕ) (ms : Members) (value : AnyNode) → HasMember ms name value → member_value name ms ≡ Some value
member_only name ms value h = ap (member_value name) h.is ∙ passes name h.before ((name, value) ∷ h.after) h.first ∙ rw (named_self name) refl

pub lacks_found : (name : List ℕ) (ms : Members) → member_value name ms ≡ None → LacksMember ms name
lacks_found name [] e = tt
lacks_found name (m ∷ ms) e = go (is_member_name name m.0) refl (λ f. lacks_found name ms f) e
  where
    go : (x : Bool) → is_member_name name m.0 ≡ x → (member_value name ms ≡ None → LacksMember ms name) → cond x (Some m.1) (member_value name ms) ≡ None → LacksMember (m ∷ ms) name
    go true is ih f = absurd cc
    go false is ih f = (not_named name m.0 is, ih f)

pub lacks_only : (name : List ℕ) (ms : Members) → LacksMember ms name → member_value name ms ≡ None
lacks_only name [] lacks = refl
lacks_only name (m ∷ ms) lacks = rw (named_not name m.0 lacks.0) (lacks_only name ms lacks.1)

-- ---- values

pub group_found : (name : List ℕ) (value : AnyNode) (ms : Members) → group_of name value ≡ Ok ms → IsGroup value ms
group_found name value ms e = go (out-AnyNode value) refl e
  where
    go : (n : AnyNode-F AnyNode) → out-AnyNode value ≡ n → group_in name n ≡ Ok ms → out-AnyNode value ≡ AnyNode-F.Group ms
    go (AnyNode-F.Word text) is f = absurd cc
    go (AnyNode-F.Pattern text) is f = absurd cc
    go (AnyNode-F.Group group) is f = is ∙ ap (λ (g : Members). AnyNode-F.Group g) (ok_is group ms f)

pub group_only : (name : List ℕ) (value : AnyNode) (ms : Members) → IsGroup value ms → group_of name value ≡ Ok ms
group_only name value ms is = ap (group_in name) is

pub word_found : (name : List ℕ) (value : AnyNode) (text : List ℕ) → member_word name value ≡ Ok text → IsWord value text
word_found name value text e = go (out-AnyNode value) refl e
  where
    go : (n : AnyNode-F AnyNode) → out-AnyNode value ≡ n → member_word_in name n ≡ Ok text → out-AnyNode value ≡ AnyNode-F.Word text
    go (AnyNode-F.Word word) is f = is ∙ ap (λ (w : List ℕ). AnyNode-F.Word w) (ok_is word text f)
    go (AnyNode-F.Pattern word) is f = absurd cc
    go (AnyNode-F.Group group) is f = absurd cc

pub word_only : (name : List ℕ) (value : AnyNode) (text : List ℕ) → IsWord value text → member_word name value ≡ Ok text
word_only name value text is = ap (member_word_in name) is

pub needed_found : (name : List ℕ) (ms group : Members) → needed_group name ms ≡ Ok group → HasGroup ms name group
unfolding needed_group
needed_found name ms group e = go (member_value name ms) refl e
  where
    go : (o : Option AnyNode) → member_value name ms ≡ o → (or_missing name o >>= λ value. group_of name value) ≡ Ok group → HasGroup ms name group
    go None is f = absurd cc
    go (Some value) is f = record { value = value; there = member_found name ms value is; is = group_found name value group f }

pub needed_only : (name : List ℕ) (ms group : Members) → HasGroup ms name group → needed_group name ms ≡ Ok group
unfolding needed_group
needed_only name ms group h = ap (λ (o : Option AnyNode). or_missing name o >>= λ value. group_of name value) (member_only name ms h.value h.there) ∙ group_only name h.value group h.is

-- the group of this name, or none of its members where there is no such group
abbrev pub HasGroupOrNone : Members → List ℕ → Members → Type 0
HasGroupOrNone ms name group = HasGroup ms name group ⊎ (LacksMember ms name × (group ≡ []))

pub optional_found : (name : List ℕ) (ms group : Members) → optional_group name ms ≡ Ok group → HasGroupOrNone ms name group
unfolding optional_group
optional_found name ms group e = go (member_value name ms) refl e
  where
    go : (o : Option AnyNode) → member_value name ms ≡ o → group_or_none name o ≡ Ok group → HasGroupOrNone ms name group
    go None is f = inr (lacks_found name ms is, sym (ok_is [] group f))
    go (Some value) is f = inl (record { value = value; there = member_found name ms value is; is = group_found name value group f })

pub optional_only : (name : List ℕ) (ms group : Members) → HasGroupOrNone ms name group → optional_group name ms ≡ Ok group
unfolding optional_group
optional_only name ms group (inl h) = ap (group_or_none name) (member_only name ms h.value h.there) ∙ group_only name h.value group h.is
optional_only name ms group (inr none) = ap (group_or_none name) (lacks_only name ms none.0) ∙ ap Ok (sym none.1)

pub bad_found : {A : Type 0} (name : List ℕ) (o : Option A) (x : A) → or_bad name o ≡ Ok x → o ≡ Some x
bad_found name None x e = absurd cc
bad_found name (Some y) x e = ap Some (ok_is y x e)

pub number_found : (name : List ℕ) (most : ℕ) (ms : Members) (n : ℕ) → member_number name most ms ≡ Ok n → HasNumber ms name most n
unfolding member_number
number_found name most ms n e = go (member_value name ms) refl e
  where
    go : (o : Option AnyNode) → member_value name ms ≡ o → number_or_zero name most o ≡ Ok n → HasNumber ms name most n
    go None is f = inr (lacks_found name ms is, sym (ok_is 0 n f))
    go (Some value) is f =
        let b = bind_found (member_word name value) (λ text. or_bad name (decimal most text)) n f in
        inl (b.0, record { value = value; there = member_found name ms value is; is = word_found name value b.0 b.1 }, bad_found name (decimal most b.0) n b.2)

pub number_only : (name : List ℕ) (most : ℕ) (ms : Members) (n : ℕ) → HasNumber ms name most n → member_number name most ms ≡ Ok n
unfolding member_number
number_only name most ms n (inl h) =
    ap (number_or_zero name most) (member_only name ms h.1.value h.1.there)
    ∙ bind_only (member_word name h.1.value) (λ text. or_bad name (decimal most text)) h.0 n (word_only name h.1.value h.0 h.1.is) (ap (or_bad name) h.2)
number_only name most ms n (inr none) = ap (number_or_zero name most) (lacks_only name ms none.0) ∙ ap Ok (sym none.1)

-- ---- lists

module _ {A B : Type 0} (read : A → FarmOutcome B) (R : A → B → Type 0) where
  after_found : ((x : A) (y : B) → read x ≡ Ok y → R x y) → (found : List B) (xs : List A) (ys : List B) → each_after read found xs ≡ Ok ys → (rest : List B) × (ys ≡ found ++ rest) × AllZip R xs rest
  after_found reads found [] ys e = ([], sym (append-nil found ∙ ok_is found ys e), tt)
  after_found reads found (x ∷ xs) ys e =
      let b = bind_found (read x) (λ y. each_after read (found ++ y ∷ []) xs) ys e in
      let ih = after_found reads (found ++ b.0 ∷ []) xs ys b.2 in
      (b.0 ∷ ih.0, ih.1 ∙ append_assoc found (b.0 ∷ []) ih.0, (reads x b.0 b.1, ih.2))

  after_only : ((x : A) (y : B) → R x y → read x ≡ Ok y) → (found : List B) (xs : List A) (rest : List B) → AllZip R xs rest → each_after read found xs ≡ Ok (found ++ rest)
  after_only reads found [] [] all = ap Ok (sym (append-nil found))
  after_only reads found [] (y ∷ rest) all = absurd all
  after_only reads found (x ∷ xs) [] all = absurd all
  after_only reads found (x ∷ xs) (y ∷ rest) all =
      bind_only (read x) (λ z. each_after read (found ++ z ∷ []) xs) y (found ++ y ∷ rest) (reads x y all.0)
      (after_only reads (found ++ y ∷ []) xs rest all.1 ∙ ap Ok (append_assoc found (y ∷ []) rest))

  pub each_found : ((x : A) (y : B) → read x ≡ Ok y → R x y) → (xs : List A) (ys : List B) → each read xs ≡ Ok ys → AllZip R xs ys
  each_found reads xs ys e = let f = after_found reads [] xs ys e in subst (λ (zs : List B). AllZip R xs zs) (sym f.1) f.2

  pub each_only : ((x : A) (y : B) → R x y → read x ≡ Ok y) → (xs : List A) (ys : List B) → AllZip R xs ys → each read xs ≡ Ok ys
  each_only reads xs ys all = after_only reads [] xs ys all
