-- Where the grammar of a head, which is httparse's, leaves open how a stream ends. That a target is UTF-8 is looked at where the target
-- ends: so a reader may see at once that it can't become so, or only there.
use Rattle.std.specs.Prelude.{◌≡◌, ◌++◌, ℕ, true, false, List, [], ◌∷◌, IsUtf8, ◌⊎◌, length, ◌<◌, ◌≤◌}
use Rattle.httparse.specs.Ascii.{space}
use Rattle.httparse.specs.Grammar.{AllPass, IsToken, LineEnd, is_uri_byte, print_blank}
use Rattle.http_front.specs.declared.turn.Turn.{Turn}
use Rattle.http_front.specs.declared.turn.Turn.TheVariants.{Continue, Whole}
use Rattle.http_front.specs.Turns.{BeginsWithRequest, window, End, SpellsTurns, Waits, longest_head, Breaks}
use Rattle.http_front.specs.declared.fault.InFault.TheVariants.{LongHead, BadHead}

-- The bytes of the next head, or the first 16,384 of them, end within its target, which isn't UTF-8, and no more bytes of a target make it
-- so. That no bytes at all make a head of them then is the law `the_end_of_a_stream` (`bad`).
pub record EndsInSpoiltTarget (stream : List ℕ) : Type 0 where
  pub blank : List LineEnd
  pub method : List ℕ
  pub target : List ℕ
  pub token : IsToken method
  pub visible : AllPass is_uri_byte target
  pub stands : window stream ≡ print_blank blank ++ method ++ space ∷ target
  pub spoilt : (more : List ℕ) → AllPass is_uri_byte more → IsUtf8 (target ++ more) → ⊥

-- the stream begins with these turns, whole requests, each after a Continue where its sender waits for one, and last comes after them
abbrev pub BeginsWithTurns : List ℕ → List Turn → List ℕ → Type 0
BeginsWithTurns stream [] last = stream ≡ last
BeginsWithTurns stream (Whole request ∷ turns) last = (rest : List ℕ) × BeginsWithRequest stream false request rest × BeginsWithTurns rest turns last
BeginsWithTurns stream (Continue ∷ []) last = ⊥
BeginsWithTurns stream (Continue ∷ Continue ∷ turns) last = ⊥
BeginsWithTurns stream (Continue ∷ Whole request ∷ turns) last = (rest : List ℕ) × BeginsWithRequest stream true request rest × BeginsWithTurns rest turns last

-- the stream begins with these turns, and what comes after them ends within such a target
abbrev pub LeavesEndOpen : List ℕ → List Turn → Type 0
LeavesEndOpen stream turns = (last : List ℕ) × BeginsWithTurns stream turns last × EndsInSpoiltTarget last

-- another end of a stream with these turns is the same, or the stream leaves its end open
abbrev pub EndsAlikeOrOpenIfSpelt : List ℕ → List Turn → End → End → Type 0
EndsAlikeOrOpenIfSpelt stream turns end last = SpellsTurns stream turns last → (end ≡ last) ⊎ LeavesEndOpen stream turns

-- where fewer bytes come after the turns than a head may have, the stream may wait
abbrev pub MayWaitIfShort : List ℕ → List Turn → List ℕ → Type 0
MayWaitIfShort stream turns last = length last < longest_head → SpellsTurns stream turns Waits

-- where as many or more do, it may have a long head
abbrev pub MayBreakIfLong : List ℕ → List Turn → List ℕ → Type 0
MayBreakIfLong stream turns last = longest_head ≤ length last → SpellsTurns stream turns (Breaks LongHead)

-- a stream that ends in such a target has a bad head; or it waits, where fewer bytes come; or it has a long head, where as many or more do
abbrev pub SpoiltTargetsEndSo : Type 0
SpoiltTargetsEndSo = (stream last : List ℕ) (turns : List Turn) (end : End) → BeginsWithTurns stream turns last → EndsInSpoiltTarget last → SpellsTurns stream turns end
    → (end ≡ Breaks BadHead) ⊎ (((end ≡ Waits) × (length last < longest_head)) ⊎ ((end ≡ Breaks LongHead) × (longest_head ≤ length last)))

-- these turns begin all of them
abbrev pub AreFirstOf : List Turn → List Turn → Type 0
AreFirstOf turns all = (later : List Turn) × (all ≡ turns ++ later)
