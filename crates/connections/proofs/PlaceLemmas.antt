-- Places of the code and slots of the model, which are tied.
use Rattle.std.proofs.Common.{◌≡◌, ℕ, ◌+◌, suc, zero, ◌<◌, arith, get_or, cond, Bool, true, false, List, [], ◌∷◌, ◌++◌, length, refl, ap, sym, ◌∙◌}
use Rattle.std.specs.Prelude.{Some, None, position, slice_set}
use Rattle.std.specs.List.{count_by}
use Rattle.std.proofs.lemmas.List.Sums.{sum_by-cons}
use Rattle.std.proofs.lemmas.List.Quantifiers.{position-Some}
use Rattle.http_front.specs.Answers.{fixed_507}
use Rattle.connections.specs.declared.awaited.Awaited.{Awaited}
use Rattle.connections.specs.declared.place.AnswerPlace.{AnswerPlace}
use Rattle.connections.specs.declared.place.Reply.{Reply}
use Rattle.connections.specs.declared.place.Reply.TheVariants.{Interim, Fixed, Own, Awaits, Says}
use Rattle.connections.specs.Slots.{Slot, Response, IsWritten, is_answered, is_awaiting, is_final, is_same_awaited}
use Rattle.connections.specs.Slots as model
use Rattle.connections.specs.Connections.{slots_with_end}
use Rattle.connections.specs.AnswerQueues.{ReplyStandsFor, PlaceStandsFor, PlacesStandFor, AllAnswered, has_reply, awaits, is_final_reply, reply_bytes, place_bytes}
use Rattle.connections.proofs.FixedLemmas.{hit-unfixed}

-- ---- a reply and a response
pub answered-tied : (r : Reply) (t : Response) → ReplyStandsFor r t → is_answered t ≡ has_reply r
answered-tied Interim model.Interim tied = refl
answered-tied Fixed model.Fixed tied = refl
answered-tied (Own status) (model.Says b) tied = refl
answered-tied (Awaits m) (model.Awaits n) tied = refl
answered-tied (Says a) (model.Says b) tied = refl
answered-tied (Says a) (model.Cached farm log key) tied = refl
answered-tied r t tied = absurd tied

pub awaiting-tied : (n : Awaited) (r : Reply) (t : Response) → ReplyStandsFor r t → is_awaiting n t ≡ awaits n r
awaiting-tied n Interim model.Interim tied = refl
awaiting-tied n Fixed model.Fixed tied = refl
awaiting-tied n (Own status) (model.Says b) tied = refl
awaiting-tied n (Awaits m) (model.Awaits k) tied = ap (λ x. is_same_awaited x n) (sym tied)
awaiting-tied n (Says a) (model.Says b) tied = refl
awaiting-tied n (Says a) (model.Cached farm log key) tied = refl
awaiting-tied n r t tied = absurd tied

pub final-tied : (r : Reply) (t : Response) → ReplyStandsFor r t → is_final t ≡ is_final_reply r
final-tied Interim model.Interim tied = refl
final-tied Fixed model.Fixed tied = refl
final-tied (Own status) (model.Says b) tied = refl
final-tied (Awaits m) (model.Awaits n) tied = refl
final-tied (Says a) (model.Says b) tied = refl
final-tied (Says a) (model.Cached farm log key) tied = refl
final-tied r t tied = absurd tied

written-by : (head_only closes : Bool) (r : Reply) (slot : Slot) (t : Response) (bytes : List ℕ) → head_only ≡ slot.head_only → closes ≡ slot.closes → ReplyStandsFor r t → has_reply r ≡ true → bytes ≡ reply_bytes head_only closes r
    → IsWritten slot t bytes
written-by h c Interim slot model.Interim bytes eh ec tied has is = is
written-by h c Fixed slot model.Fixed bytes eh ec tied has is = is
written-by h c (Own status) slot (model.Says b) bytes eh ec tied has is = rw (is, eh, ec, tied) refl
written-by h c (Awaits m) slot (model.Awaits n) bytes eh ec tied has is = absurd (let no : ⊥ = cc in no)
written-by h c (Says a) slot (model.Says b) bytes eh ec tied has is = rw (is, eh, ec, tied) refl
written-by h c (Says a) slot (model.Cached farm log key) bytes eh ec tied has is = (a, tied, rw (is, eh, ec) refl)
written-by h c r slot t bytes eh ec tied has is = absurd tied

-- the bytes of a place that has its reply are those of its slot
pub written-tied : (place : AnswerPlace) (slot : Slot) (bytes : List ℕ) → PlaceStandsFor place slot → has_reply place.reply ≡ true → bytes ≡ place_bytes place → IsWritten slot slot.response bytes
written-tied place slot bytes tied has is = written-by place.head_only place.closes place.reply slot slot.response bytes tied.head_only_is tied.closes_is tied.replies has is

-- where the fixed 507 is written for a slot, it is the bytes of its place
fixed-by : (head_only closes : Bool) (r : Reply) (slot : Slot) (t : Response) (bytes : List ℕ) → head_only ≡ slot.head_only → closes ≡ slot.closes → ReplyStandsFor r t → has_reply r ≡ true → bytes ≡ fixed_507 → IsWritten slot t bytes
    → bytes ≡ reply_bytes head_only closes r
fixed-by h c Interim slot model.Interim bytes eh ec tied has fixed is = is
fixed-by h c Fixed slot model.Fixed bytes eh ec tied has fixed is = is
fixed-by h c (Own status) slot (model.Says b) bytes eh ec tied has fixed is = rw (is, eh, ec, tied) refl
fixed-by h c (Awaits m) slot (model.Awaits n) bytes eh ec tied has fixed is = absurd is
fixed-by h c (Says a) slot (model.Says b) bytes eh ec tied has fixed is = rw (is, eh, ec, tied) refl
fixed-by h c (Says a) slot (model.Cached farm log key) bytes eh ec tied has fixed is = absurd (hit-unfixed slot.head_only slot.closes farm log key is.0 is.1 (sym is.2 ∙ fixed))
fixed-by h c r slot t bytes eh ec tied has fixed is = absurd tied

pub fixed-bytes : (place : AnswerPlace) (slot : Slot) (bytes : List ℕ) → PlaceStandsFor place slot → has_reply place.reply ≡ true → bytes ≡ fixed_507 → IsWritten slot slot.response bytes → bytes ≡ place_bytes place
fixed-bytes place slot bytes tied has fixed is = fixed-by place.head_only place.closes place.reply slot slot.response bytes tied.head_only_is tied.closes_is tied.replies has fixed is

-- ---- places and slots
pub tied-push : (xs : List AnswerPlace) (ys : List Slot) (x : AnswerPlace) (y : Slot) → PlacesStandFor xs ys → PlaceStandsFor x y → PlacesStandFor (xs ++ x ∷ []) (ys ++ y ∷ [])
tied-push [] [] x y all here = (here, tt)
tied-push [] (z ∷ ys) x y all here = absurd all
tied-push (z ∷ xs) [] x y all here = absurd all
tied-push (z ∷ xs) (u ∷ ys) x y all here = (all.0, tied-push xs ys x y all.1 here)

-- the first place is that of the first slot
pub tied-head : (x : AnswerPlace) (xs : List AnswerPlace) (ys : List Slot) → PlacesStandFor (x ∷ xs) ys → (y : Slot) × (zs : List Slot) × (ys ≡ y ∷ zs) × PlaceStandsFor x y × PlacesStandFor xs zs
tied-head x xs [] all = absurd all
tied-head x xs (y ∷ zs) all = (y, zs, refl, all.0, all.1)

pub tied-none : (ys : List Slot) → PlacesStandFor [] ys → ys ≡ []
tied-none [] all = refl
tied-none (y ∷ ys) all = absurd all

pub count-tied : (xs : List AnswerPlace) (ys : List Slot) → PlacesStandFor xs ys → count_by (λ place. is_final_reply place.reply) xs ≡ count_by (λ slot. is_final slot.response) ys
count-tied [] [] all = refl
count-tied [] (y ∷ ys) all = absurd all
count-tied (x ∷ xs) [] all = absurd all
count-tied (x ∷ xs) (y ∷ ys) all =
    let f : AnswerPlace → ℕ = λ place. cond (is_final_reply place.reply) 1 0 in
    let g : Slot → ℕ = λ slot. cond (is_final slot.response) 1 0 in
    sum_by-cons f x xs ∙ ap (λ n. f x + n) (count-tied xs ys all.1) ∙ ap (λ b. cond b 1 0 + count_by (λ slot. is_final slot.response) ys) (sym (final-tied x.reply y.response all.0.replies)) ∙ sym (sum_by-cons g y ys)

-- ---- ends
-- the first place that awaits this has its reply
abbrev pub filled_places : Awaited → Reply → List AnswerPlace → List AnswerPlace
filled_places n r [] = []
filled_places n r (x ∷ xs) = cond (awaits n x.reply) (record x { reply = r } ∷ xs) (x ∷ filled_places n r xs)

pub tied-filled : (n : Awaited) (r : Reply) (t : Response) (xs : List AnswerPlace) (ys : List Slot) → ReplyStandsFor r t → PlacesStandFor xs ys → PlacesStandFor (filled_places n r xs) (slots_with_end n t ys)
tied-filled n r t [] [] says all = tt
tied-filled n r t [] (y ∷ ys) says all = absurd all
tied-filled n r t (x ∷ xs) [] says all = absurd all
tied-filled n r t (x ∷ xs) (y ∷ ys) says all = by_test (awaits n x.reply) refl (tied-filled n r t xs ys says all.1)
  where
    by_test : (b : Bool) → awaits n x.reply ≡ b → PlacesStandFor (filled_places n r xs) (slots_with_end n t ys) → PlacesStandFor (filled_places n r (x ∷ xs)) (slots_with_end n t (y ∷ ys))
    by_test true e rest =
        let there : is_awaiting n y.response ≡ true = awaiting-tied n x.reply y.response all.0.replies ∙ e in
        rw (e, there) (record { head_only_is = all.0.head_only_is; closes_is = all.0.closes_is; replies = says }, all.1)
    by_test false e rest =
        let there : is_awaiting n y.response ≡ false = awaiting-tied n x.reply y.response all.0.replies ∙ e in
        rw (e, there) (all.0, rest)

not-awaiting : (n : Awaited) (t : Response) → is_answered t ≡ true → is_awaiting n t ≡ false
not-awaiting n model.Interim e = refl
not-awaiting n model.Fixed e = refl
not-awaiting n (model.Awaits m) e = absurd (let no : ⊥ = cc in no)
not-awaiting n (model.Says a) e = refl
not-awaiting n (model.Cached farm log key) e = refl

-- an end passes over the slots that are answered
pub filled-past : (n : Awaited) (t : Response) (xs ys : List Slot) → AllAnswered xs → slots_with_end n t (xs ++ ys) ≡ xs ++ slots_with_end n t ys
filled-past n t [] ys all = refl
filled-past n t (x ∷ xs) ys all = rw (not-awaiting n x.response all.0) (ap (λ zs. x ∷ zs) (filled-past n t xs ys all.1))

pub length-filled : (n : Awaited) (t : Response) (xs : List Slot) → length (slots_with_end n t xs) ≡ length xs
length-filled n t [] = refl
length-filled n t (x ∷ xs) = by_test (is_awaiting n x.response) refl (length-filled n t xs)
  where
    by_test : (b : Bool) → is_awaiting n x.response ≡ b → length (slots_with_end n t xs) ≡ length xs → length (slots_with_end n t (x ∷ xs)) ≡ suc (length xs)
    by_test true e rest = rw e refl
    by_test false e rest = rw e (ap suc rest)

-- ---- the place that waits
filled-at : (n : Awaited) (r : Reply) (xs : List AnswerPlace) (i : ℕ) (d : AnswerPlace) → i < length xs → awaits n (get_or xs i d).reply ≡ true → ((k : ℕ) → k < i → awaits n (get_or xs k d).reply ≡ false)
    → filled_places n r xs ≡ slice_set xs i (record (get_or xs i d) { reply = r })
filled-at n r [] i d within here before = absurd (omega arith)
filled-at n r (x ∷ xs) zero d within here before = rw here refl
filled-at n r (x ∷ xs) (suc i) d within here before =
    let other : awaits n x.reply ≡ false = before 0 (omega arith) in
    rw other (ap (λ zs. x ∷ zs) (filled-at n r xs i d (omega arith) here (λ k h. before (suc k) (omega arith))))

pub filled-some : (n : Awaited) (r : Reply) (xs : List AnswerPlace) (i : ℕ) (x : AnswerPlace) → Some i ≡ position (λ place. awaits n place.reply) xs → x ≡ get_or xs i x → filled_places n r xs ≡ slice_set xs i (record x { reply = r })
filled-some n r xs i x found is =
    let at = position-Some (λ place. awaits n place.reply) xs i x (sym found) in
    filled-at n r xs i x at.0 at.1 at.2 ∙ ap (λ (y : AnswerPlace). slice_set xs i (record y { reply = r })) (sym is)

pub filled-none : (n : Awaited) (r : Reply) (xs : List AnswerPlace) → position (λ place. awaits n place.reply) xs ≡ None → filled_places n r xs ≡ xs
filled-none n r [] e = refl
filled-none n r (x ∷ xs) e = by_test (awaits n x.reply) refl (filled-none n r xs)
  where
    by_test : (t : Bool) → awaits n x.reply ≡ t → (position (λ place. awaits n place.reply) xs ≡ None → filled_places n r xs ≡ xs) → filled_places n r (x ∷ xs) ≡ x ∷ xs
    by_test true same rest = absurd (grind (arith, same, e))
    by_test false other rest = rw other (ap (λ zs. x ∷ zs) (rest (grind (arith, other, e))))
