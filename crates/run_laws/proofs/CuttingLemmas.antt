-- Streams of which one begins the other: their turns, and the bytes that are sent.
use Rattle.std.proofs.Common.{◌≡◌, ℕ, ◌++◌, Bool, true, false, List, [], ◌∷◌, refl, ap, sym, subst, ◌∙◌, inl, inr, append_assoc}
use Rattle.http_front.specs.Turns.{SpellsTurns}
use Rattle.connections.specs.Slots.{Awaits, Cached, Fixed, Interim, IsWritten, MayAnswer, Response, Says, Slot, is_last}
use Rattle.connections.specs.Histories.{HaveNoSendingOutOfMemory, AnswersRun, IsEndOr}
use Rattle.connections.specs.declared.sending.Sending.{Sending}
use Rattle.run_laws.specs.Cuttings.{AreAnsweredAlike, CuttingsAgree, IsOneAnswer, OneBegins, bytes_sent}
use Rattle.run_events.specs.Events.{Event, Run}
use Rattle.run_laws.specs.Histories.{AnswersWhatCame, came_since_opened, sent_since_opened}
use Rattle.run_events.specs.States.{Start, start_of}
use Rattle.run_laws.proofs.TurnLemmas.{Beginnings}

-- ---- lists
begins-cons : {A : Type 0} (x y : A) (a b : List A) → x ≡ y → OneBegins a b → OneBegins (x ∷ a) (y ∷ b)
begins-cons x y a b same (inl longer) = inl (longer.0, λ i. sym same i ∷ longer.1 i)
begins-cons x y a b same (inr longer) = inr (longer.0, λ i. same i ∷ longer.1 i)

-- two lists that go on to the same
begins-both : {A : Type 0} (a b u v : List A) → a ++ u ≡ b ++ v → OneBegins a b
begins-both [] b u v e = inl (b, refl)
begins-both (x ∷ a) [] u v e = inr (x ∷ a, refl)
begins-both (x ∷ a) (y ∷ b) u v e =
    let head : x ≡ y = cc in
    let tail : a ++ u ≡ b ++ v = cc in
    begins-cons x y a b head (begins-both a b u v tail)

begins-append : (u v a b : List ℕ) → u ≡ v → OneBegins a b → OneBegins (u ++ a) (v ++ b)
begins-append u v a b same (inl longer) = inl (longer.0, ap (λ xs. v ++ xs) longer.1 ∙ ap (λ xs. xs ++ (a ++ longer.0)) (sym same) ∙ sym (append_assoc u a longer.0))
begins-append u v a b same (inr longer) = inr (longer.0, ap (λ xs. u ++ xs) longer.1 ∙ ap (λ xs. xs ++ (b ++ longer.0)) same ∙ sym (append_assoc v b longer.0))

-- ---- turns
begins-turns : Beginnings → (came more : List ℕ) (sent other : List Sending) (one : AnswersWhatCame came sent) (two : AnswersWhatCame (came ++ more) other) → OneBegins one.answers.turns two.answers.turns
begins-turns law came more sent other one two = by_streams (begins-both one.stream two.stream (one.rest ++ more) two.rest all)
  where
    all : one.stream ++ (one.rest ++ more) ≡ two.stream ++ two.rest
    all = sym (append_assoc one.stream one.rest more) ∙ ap (λ xs. xs ++ more) (sym one.came_is) ∙ two.came_is

    by_streams : OneBegins one.stream two.stream → OneBegins one.answers.turns two.answers.turns
    by_streams (inl longer) =
        let spells : SpellsTurns (one.stream ++ longer.0) two.answers.turns two.answers.ends = subst (λ s. SpellsTurns s two.answers.turns two.answers.ends) longer.1 two.answers.spells in
        inl (law one.stream longer.0 one.answers.turns two.answers.turns one.answers.ends two.answers.ends one.answers.spells spells)
    by_streams (inr longer) =
        let spells : SpellsTurns (two.stream ++ longer.0) one.answers.turns one.answers.ends = subst (λ s. SpellsTurns s one.answers.turns one.answers.ends) longer.1 one.answers.spells in
        inr (law two.stream longer.0 two.answers.turns one.answers.turns two.answers.ends one.answers.ends two.answers.spells spells)

-- ---- bytes
pub written-same : (slot : Slot) (response : Response) (a b : List ℕ) → IsOneAnswer response → IsWritten slot response a → IsWritten slot response b → a ≡ b
written-same slot Interim a b one x y = x ∙ sym y
written-same slot Fixed a b one x y = x ∙ sym y
written-same slot (Awaits what) a b one x y = absurd x
written-same slot (Says answer) a b one x y = x ∙ sym y
written-same slot (Cached farm log key) a b one x y = absurd one

written-with-memory : (slot : Slot) (sending : Sending) → sending.out_of_memory ≡ false → MayAnswer slot sending → IsWritten slot slot.response sending.bytes
written-with-memory slot sending not_out_of_memory (inl written) = written
written-with-memory slot sending not_out_of_memory (inr out_of_memory) = absurd (let ran_out : sending.out_of_memory ≡ true = out_of_memory.0 in let no : ⊥ = cc in no)

same-bytes : (x y : Slot) (s t : Sending) → (x ≡ y) × IsOneAnswer x.response → MayAnswer x s → MayAnswer y t → s.out_of_memory ≡ false → t.out_of_memory ≡ false → s.bytes ≡ t.bytes
same-bytes x y s t same one two not_out_of_memory other_not_out_of_memory =
    written-same y y.response s.bytes t.bytes (subst (λ (z : Slot). IsOneAnswer z.response) same.0 same.1) (subst (λ (z : Slot). IsWritten z z.response s.bytes) same.0 (written-with-memory x s not_out_of_memory one)) (written-with-memory y t other_not_out_of_memory two)

begins-bytes : (xs ys : List Slot) (sent other : List Sending) → AnswersRun xs sent → AnswersRun ys other → AreAnsweredAlike xs ys → HaveNoSendingOutOfMemory sent → HaveNoSendingOutOfMemory other → OneBegins (bytes_sent sent) (bytes_sent other)
begins-bytes xs ys [] other one two same not_out_of_memory other_not_out_of_memory = inl (bytes_sent other, refl)
begins-bytes xs ys (s ∷ sent) [] one two same not_out_of_memory other_not_out_of_memory = inr (bytes_sent (s ∷ sent), refl)
begins-bytes [] ys (s ∷ sent) (t ∷ other) one two same not_out_of_memory other_not_out_of_memory = absurd one
begins-bytes (x ∷ xs) [] (s ∷ sent) (t ∷ other) one two same not_out_of_memory other_not_out_of_memory = absurd two
begins-bytes (x ∷ xs) (y ∷ ys) (s ∷ sent) (t ∷ other) one two same not_out_of_memory other_not_out_of_memory =
    begins-append s.bytes t.bytes (bytes_sent sent) (bytes_sent other) (same-bytes x y s t (same.0 one.2 two.2) one.0 two.0 not_out_of_memory.0 other_not_out_of_memory.0)
    (by_last (is_last x s.bytes) (is_last y t.bytes) one.1 two.1 (begins-bytes xs ys sent other))
  where
    by_last : (p q : Bool) → IsEndOr p sent (AnswersRun xs sent) → IsEndOr q other (AnswersRun ys other)
        → (AnswersRun xs sent → AnswersRun ys other → AreAnsweredAlike xs ys → HaveNoSendingOutOfMemory sent → HaveNoSendingOutOfMemory other → OneBegins (bytes_sent sent) (bytes_sent other)) → OneBegins (bytes_sent sent) (bytes_sent other)
    by_last true q ended next rest = inl (bytes_sent other, ap (λ xs. bytes_sent xs ++ bytes_sent other) (sym ended))
    by_last false true next ended rest = inr (bytes_sent sent, ap (λ xs. bytes_sent xs ++ bytes_sent sent) (sym ended))
    by_last false false first second rest = rest first second same.1 not_out_of_memory.1 other_not_out_of_memory.1

-- ---- the law
-- the law of streams
abbrev pub Streams : Type 0
Streams = (s : Start) (events : List Event) (c : ℕ) → Run (start_of s) events → AnswersWhatCame (came_since_opened c events) (sent_since_opened c events)

pub cut-alike : Beginnings → Streams → CuttingsAgree
cut-alike law streams p q a b c d more first second grows =
    let x = streams p a c first in
    let y = subst (λ came. AnswersWhatCame came (sent_since_opened d b)) grows (streams q b d second) in
    record {
      one = x;
      two = y;
      turns = begins-turns law (came_since_opened c a) more (sent_since_opened c a) (sent_since_opened d b);
      bytes = λ u v. begins-bytes u.answers.slots v.answers.slots (sent_since_opened c a) (sent_since_opened d b) u.answers.answers v.answers.answers;
    }
