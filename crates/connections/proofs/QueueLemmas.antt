-- What is left of a connection, when something happens to it.
use Rattle.std.proofs.Common.{◌≡◌, ℕ, ◌<◌, ◌≤◌, ◌||◌, zero, suc, Bool, true, false, cond, List, [], ◌∷◌, ◌++◌, length, take, drop, Option, Some, None, refl, ap, sym, subst, ◌∙◌, ◌⊎◌, arith, inl, inr, ⊎_elim, add-one, length-append}
use Rattle.std.specs.Prelude.{IsTrue, not, slice_get}
use Rattle.std.specs.Cmp.Lexicographic.{same_text}
use Rattle.std.proofs.lemmas.Bool.{false≢true, not-true}
use Rattle.std.proofs.lemmas.Grind.{common_steps}
use Rattle.std.proofs.lemmas.List.{take-append-le}
use Rattle.sp_base.proofs.BoolLemmas.{or_true}
use Rattle.http_front.specs.Answers.{fixed_507}
use Rattle.connections.specs.declared.awaited.Awaited.{Awaited}
use Rattle.connections.specs.declared.place.AnswerPlace.{AnswerPlace}
use Rattle.connections.specs.declared.sending.Sending.{Sending}
use Rattle.connections.specs.declared.place.Reply.{Reply}
use Rattle.connections.specs.Slots.{IsInPlaceOf, Response, Slot, MayAnswer, is_answered, are_fixed_507}
use Rattle.connections.specs.Connections.{Connection, Close, IsInPlaceOfDue, Send, due, due_at_slot, due_without_sending, slots_with_end, with_end, with_sent, with_slot}
use Rattle.connections.specs.Histories.{IsDueSending}
use Rattle.connections.specs.AnswerQueues.{AllAnswered, PlacesStandFor, IsLeft, IsSendingOf, PlaceStandsFor, ReplyStandsFor, first_has_reply, has_reply, place_bytes}
use Rattle.connections.proofs.FixedLemmas.{are_fixed_507-fixed}
use Rattle.connections.proofs.PlaceLemmas.{answered-tied, filled-past, filled_places, fixed-bytes, length-filled, tied-filled, tied-head, tied-none, tied-push, written-tied}

-- ---- lists
pub drop-head : {A : Type 0} (n : ℕ) (xs : List A) (y : A) (ys : List A) → drop n xs ≡ y ∷ ys → (slice_get xs n ≡ Some y) × (drop (suc n) xs ≡ ys) × (n < length xs) × (take (suc n) xs ≡ take n xs ++ y ∷ [])
drop-head n [] y ys e = absurd (let no : ⊥ = grind (arith, common_steps, e) in no)
drop-head zero (x ∷ xs) y ys e = grind (arith, e)
drop-head (suc n) (x ∷ xs) y ys e =
    let rest = drop-head n xs y ys e in
    (rest.0, rest.1, omega (arith, rest.2), ap (λ zs. x ∷ zs) rest.3)

pub drop-end : {A : Type 0} (n : ℕ) (xs : List A) → drop n xs ≡ [] → (slice_get xs n ≡ None) × (length xs ≤ n)
drop-end n [] e = grind arith
drop-end zero (x ∷ xs) e = absurd (let no : ⊥ = cc in no)
drop-end (suc n) (x ∷ xs) e = let rest = drop-end n xs e in (rest.0, omega (arith, rest.1))

pub take-exact : {A : Type 0} (xs ys : List A) (n : ℕ) → length xs ≡ n → (take n (xs ++ ys) ≡ xs) × (drop n (xs ++ ys) ≡ ys)
take-exact xs ys n e = (grind (arith, common_steps, e), grind (arith, common_steps, e))

pub all-answered-push : (xs : List Slot) (y : Slot) → AllAnswered xs → is_answered y.response ≡ true → AllAnswered (xs ++ y ∷ [])
all-answered-push [] y all here = (here, tt)
all-answered-push (x ∷ xs) y all here = (all.0, all-answered-push xs y all.1 here)

-- ---- a turn gets its place
pub push-left : {places : List AnswerPlace} {closing over : Bool} {spare : List ℕ} (c : Connection) (place : AnswerPlace) (slot : Slot) → IsLeft places closing over spare c → PlaceStandsFor place slot
    → IsLeft (places ++ place ∷ []) (closing || place.closes) over spare (with_slot slot c)
push-left {places} c place slot left tied =
    let within = left.within in
    let cut : drop c.sent (c.slots ++ slot ∷ []) ≡ drop c.sent c.slots ++ slot ∷ [] = grind (arith, common_steps) in
    record {
      unsent = rw cut (tied-push places (drop c.sent c.slots) place slot left.unsent tied);
      within = omega (arith, length-append c.slots (slot ∷ []));
      past = rw (take-append-le) left.past;
      closing_is = rw (left.closing_is, tied.closes_is) refl;
      over_is = left.over_is;
      spare_is = left.spare_is;
    }

-- ---- a slot is sent
-- what is spare stays the fixed 507 until that is sent
spare-fixed : (sending : Sending) (place : AnswerPlace) (spare now_spare : List ℕ) (over : Bool) → spare ≡ fixed_507 → (now_spare ≡ spare) ⊎ (sending.bytes ≡ spare) → over ≡ (place.closes || are_fixed_507 sending.bytes) → over ≡ false → now_spare ≡ fixed_507
spare-fixed sending place spare now_spare over fixed kept over_is going =
    ⊎_elim
    (λ same. same ∙ fixed)
    (λ sent.
    let ended : over ≡ true = over_is ∙ ap (λ b. place.closes || b) (are_fixed_507-fixed sending.bytes (sent ∙ fixed)) ∙ or_true place.closes in
    absurd (let no : ⊥ = cc in no))
    kept

-- the spare bytes are the place's own, or memory ran out
own-or-fixed : (t out_of_memory : Bool) (place : AnswerPlace) (slot : Slot) (sending : Sending) → are_fixed_507 (place_bytes place) ≡ t → sending.out_of_memory ≡ not t → sending.bytes ≡ fixed_507 → PlaceStandsFor place slot → has_reply place.reply ≡ true → MayAnswer slot sending
own-or-fixed true out_of_memory place slot sending own not_out_of_memory bytes tied has = inl (written-tied place slot sending.bytes tied has (bytes ∙ sym (same_text _ _ (sym own))))
own-or-fixed false out_of_memory place slot sending other ran_out bytes tied has = inr (ran_out, bytes)

may-answer : (sending : Sending) (place : AnswerPlace) (slot : Slot) (spare : List ℕ) → spare ≡ fixed_507 → IsSendingOf place spare sending → PlaceStandsFor place slot → has_reply place.reply ≡ true → MayAnswer slot sending
may-answer sending place slot spare fixed is tied has =
    ⊎_elim
    (λ e. inl (written-tied place slot sending.bytes tied has e.1))
    (λ e. own-or-fixed (are_fixed_507 (place_bytes place)) sending.out_of_memory place slot sending refl e.0 (e.1 ∙ fixed) tied has)
    is

pub due-answered : (c : Connection) (slot : Slot) → c.over ≡ false → slice_get c.slots c.sent ≡ Some slot → is_answered slot.response ≡ true → due c ≡ Send slot
due-answered c slot going at has = rw (going, at, has) refl

pub sent-left : {places : List AnswerPlace} {closing over : Bool} {spare : List ℕ} (c : Connection) (place : AnswerPlace) (rest : List AnswerPlace) (sending : Sending) (now_closing now_over : Bool) (now_spare : List ℕ) → IsLeft places closing over spare c
    → places ≡ place ∷ rest → now_closing ≡ closing → over ≡ false → has_reply place.reply ≡ true → IsSendingOf place spare sending → (now_spare ≡ spare) ⊎ (sending.bytes ≡ spare) → now_over ≡ (place.closes || are_fixed_507 sending.bytes)
    → IsDueSending c sending × IsLeft rest now_closing now_over now_spare (with_sent sending.bytes c)
sent-left {places} {closing} {over} {spare} c place rest sending now_closing now_over now_spare left e stays going has is kept over_is =
    let fixed = left.spare_is going in
    let first = tied-head place rest (drop c.sent c.slots) (rw e at left.unsent) in
    let slot = first.0 in
    let tied = first.3 in
    let cut = drop-head c.sent c.slots slot first.1 first.2 in
    let answered : is_answered slot.response ≡ true = answered-tied place.reply slot.response tied.replies ∙ has in
    let going_on : c.over ≡ false = sym left.over_is ∙ going in (
      record { slot = slot; is_due = due-answered c slot going_on cut.0 answered; answers = may-answer sending place slot spare fixed is tied has },
      record {
        unsent = rw (add-one, cut.1) first.4;
        within = omega (arith, cut.2);
        past = rw (add-one, cut.3) (all-answered-push _ _ left.past answered);
        closing_is = stays ∙ left.closing_is;
        over_is = rw cut.0 (over_is ∙ ap (λ b. b || are_fixed_507 sending.bytes) tied.closes_is);
        spare_is = spare-fixed sending place spare now_spare now_over fixed kept over_is;
      },
    )

-- ---- memory runs out
-- the fixed 507 stands in place of another answer
in-place : (place : AnswerPlace) (slot : Slot) (sending : Sending) (spare : List ℕ) → spare ≡ fixed_507 → IsSendingOf place spare sending → PlaceStandsFor place slot → has_reply place.reply ≡ true → IsTrue sending.out_of_memory → IsInPlaceOf slot sending.bytes
in-place place slot sending spare fixed (inl own) tied has out_of_memory = absurd (let not_out_of_memory : sending.out_of_memory ≡ false = own.0 in let no : ⊥ = cc in no)
in-place place slot sending spare fixed (inr sent) tied has out_of_memory =
    let bytes : sending.bytes ≡ fixed_507 = sent.1 ∙ fixed in
    let other : are_fixed_507 (place_bytes place) ≡ false = not-true _ (sym sent.0 ∙ out_of_memory) in
    (bytes, λ written. false≢true (sym other ∙ are_fixed_507-fixed _ (sym (fixed-bytes place slot sending.bytes tied has bytes written) ∙ bytes)))

pub in-place-due : {places : List AnswerPlace} {closing over : Bool} {spare : List ℕ} (c : Connection) (place : AnswerPlace) (rest : List AnswerPlace) (sending : Sending) → IsLeft places closing over spare c → places ≡ place ∷ rest → over ≡ false
    → has_reply place.reply ≡ true → IsSendingOf place spare sending → IsTrue sending.out_of_memory → IsInPlaceOfDue (due c) sending.bytes
in-place-due {places} c place rest sending left e going has is out_of_memory =
    let first = tied-head place rest (drop c.sent c.slots) (rw e at left.unsent) in
    let slot = first.0 in
    let cut = drop-head c.sent c.slots slot first.1 first.2 in
    let answered : is_answered slot.response ≡ true = answered-tied place.reply slot.response first.3.replies ∙ has in
    subst (λ d. IsInPlaceOfDue d sending.bytes) (sym (due-answered c slot (sym left.over_is ∙ going) cut.0 answered)) (in-place place slot sending _ (left.spare_is going) is first.3 has out_of_memory)

-- ---- nothing is sent
pub over-waits : {places : List AnswerPlace} {closing over : Bool} {spare : List ℕ} (c : Connection) → IsLeft places closing over spare c → over ≡ true → due c ≡ due_without_sending c
over-waits c left e = let ended : c.over ≡ true = sym left.over_is ∙ e in rw ended refl

due-by : (c : Connection) (o : Option Slot) → slice_get c.slots c.sent ≡ o → due_at_slot o c ≡ due_without_sending c → due c ≡ due_without_sending c
due-by c o at e = by_over c.over refl
  where
    by_over : (b : Bool) → c.over ≡ b → due c ≡ due_without_sending c
    by_over true is = rw is refl
    by_over false is = let going : c.over ≡ false = is in ap (λ b. cond b Close (due_at_slot (slice_get c.slots c.sent) c)) going ∙ ap (λ x. due_at_slot x c) at ∙ e

pub held-waits : {places : List AnswerPlace} {closing over : Bool} {spare : List ℕ} (c : Connection) → IsLeft places closing over spare c → first_has_reply places ≡ false → due c ≡ due_without_sending c
held-waits {places} c left = by_places places left.unsent
  where
    by_places : (ps : List AnswerPlace) → PlacesStandFor ps (drop c.sent c.slots) → first_has_reply ps ≡ false → due c ≡ due_without_sending c
    by_places [] tied e = due-by c None (drop-end c.sent c.slots (tied-none _ tied)).0 refl
    by_places (p ∷ ps) tied e =
        let first = tied-head p ps (drop c.sent c.slots) tied in
        let cut = drop-head c.sent c.slots first.0 first.1 first.2 in
        let waits : is_answered first.0.response ≡ false = answered-tied p.reply first.0.response first.3.replies ∙ e in
        due-by c (Some first.0) cut.0 (rw waits refl)

-- ---- what a slot waits for has ended
pub filled-left : {places : List AnswerPlace} {closing over : Bool} {spare : List ℕ} (c : Connection) (n : Awaited) (r : Reply) (t : Response) → ReplyStandsFor r t → IsLeft places closing over spare c → IsLeft (filled_places n r places) closing over spare (with_end n t c)
filled-left {places} c n r t says left =
    let within = left.within in
    let whole : take c.sent c.slots ++ drop c.sent c.slots ≡ c.slots = grind (arith, common_steps) in
    let split : slots_with_end n t c.slots ≡ take c.sent c.slots ++ slots_with_end n t (drop c.sent c.slots) =
    sym (ap (slots_with_end n t) whole) ∙ filled-past n t (take c.sent c.slots) (drop c.sent c.slots) left.past in
    let size : length (take c.sent c.slots) ≡ c.sent = grind (arith, common_steps) in
    let cut = take-exact (take c.sent c.slots) (slots_with_end n t (drop c.sent c.slots)) c.sent size in
    record {
      unsent = rw (split, cut.1) (tied-filled n r t places (drop c.sent c.slots) says left.unsent);
      within = omega (arith, length-filled n t c.slots);
      past = rw (split, cut.0) left.past;
      closing_is = left.closing_is;
      over_is = left.over_is;
      spare_is = left.spare_is;
    }
