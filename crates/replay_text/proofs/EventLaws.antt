-- A line tells the event that it asks for, and has no newline within.
use Rattle.std.proofs.Common.{◌≡◌, ◌≢◌, ◌≤◌, ◌<◌, ◌/◌, ◌%◌, ◌++◌, ◌&&◌, ◌==◌, ℕ, Bool, true, false, List, [], ◌∷◌, codes, sym, ◌∙◌, ap, refl, arith, length, not, eqb, get_or, drop, if◌then◌else◌}
use Rattle.std.specs.Prelude.{flat_map, nat_le}
use Rattle.std.specs.List.{list_all}
use Rattle.std.specs.Fmt.{decimal}
use Rattle.std.proofs.lemmas.Bool.{and_parts}
use Rattle.std.proofs.lemmas.Bool.Decides.{nat_tests}
use Rattle.std.proofs.lemmas.Fmt.{decimal_injective}
use Rattle.sp_base.specs.Bytes.{is_visible_ascii}
use Rattle.sp_outside.specs.declared.mem_disk.Way.{Way}
use Rattle.sp_outside.specs.declared.mem_disk.Way.TheVariants.{Old, New}
use Rattle.cover_rules.specs.declared.invalidation.Action.{Action}
use Rattle.cover_rules.specs.declared.invalidation.Action.TheVariants.{Activate, Deactivate, Delete}
use Rattle.replay_text.specs.Lines.{newlines}
use Rattle.replay_text.specs.Transcript.{hex, quoted_byte, quotation, action_text, IsConnectionNumber}
use Rattle.replay_text.specs.EventLines.{is_visible_text, flight_text, scope_text, flushed_text, way_text, line_of, IsFlightText, IsEventLine}
use Rattle.replay_text.specs.declared.event_line.EventLine.{EventLine}
use Rattle.replay_text.specs.declared.event_line.EventLine.TheVariants.{Direct, Open, Close, Bytes, Get, Post, Flush, Render, Deliver, Lose, Purge, Restart, Fail, Stop}
use Rattle.replay_text.specs.declared.event_line.NamedFlight.{NamedFlight}
use Rattle.replay_text.specs.declared.event_line.NamedFlight.TheVariants.{First, Numbered}
use Rattle.replay_text.proofs.LineLaws.{newlines-append}
use Rattle.replay_text.proofs.NumberLemmas.{one_number, decimal_not_first, newlines-decimal}
use Rattle.replay_text.proofs.Escapes.{one_quoted}
use Rattle.std.proofs.lemmas.List.{append-nil}
use Rattle.replay_text.specs.Quoting.{not_blank}
use Rattle.replay_text.proofs.WordLemmas.{not_cut, one_first_word, target_no_blank}

-- ---- no newline within

visible_is_no_newline : (b : ℕ) → is_visible_ascii b ≡ true → eqb b 10 ≡ false
visible_is_no_newline b e = grind (arith, nat_tests)

newlines-visible : (text : List ℕ) → list_all is_visible_ascii text ≡ true → newlines text ≡ 0
newlines-visible [] e = refl
newlines-visible (b ∷ text) e =
    let parts = and_parts (is_visible_ascii b) (list_all is_visible_ascii text) e in
    let apart = visible_is_no_newline b parts.0 in
    rw apart (omega (arith, newlines-visible text parts.1))

newlines-target : (text : List ℕ) → is_visible_text text ≡ true → newlines text ≡ 0
newlines-target text is = newlines-visible text (and_parts (not (eqb (length text) 0)) (list_all is_visible_ascii text) is).1

above_is_no_newline : (b : ℕ) → 11 ≤ b → eqb b 10 ≡ false
above_is_no_newline b le = grind (arith, nat_tests)

newlines-above : (b : ℕ) (text : List ℕ) → 11 ≤ b → newlines (b ∷ text) ≡ newlines text
newlines-above b text le = let apart = above_is_no_newline b le in rw apart (omega arith)

hex_above : (n : ℕ) → 11 ≤ hex n
hex_above n = grind (arith, nat_tests)

newlines-choice : (t : Bool) (x y : List ℕ) → newlines x ≡ 0 → newlines y ≡ 0 → newlines (if t then x else y) ≡ 0
newlines-choice true x y p q = p
newlines-choice false x y p q = q

printable_above : (b : ℕ) → (nat_le 32 b && nat_le b 126) ≡ true → 11 ≤ b
printable_above b e = grind (arith, nat_tests)

newlines-hex : (b : ℕ) → newlines (codes "\\x" ++ hex (b / 16) ∷ hex (b % 16) ∷ []) ≡ 0
newlines-hex b =
    omega (arith, newlines-above (hex (b / 16)) (hex (b % 16) ∷ []) (hex_above (b / 16)), newlines-above (hex (b % 16)) [] (hex_above (b % 16)))

newlines-printable : (b : ℕ) (t : Bool) → (t ≡ true → 11 ≤ b) → newlines (if t then b ∷ [] else codes "\\x" ++ hex (b / 16) ∷ hex (b % 16) ∷ []) ≡ 0
newlines-printable b true above = newlines-above b [] (above refl)
newlines-printable b false above = newlines-hex b

newlines-quoted_byte : (b : ℕ) → newlines (quoted_byte b) ≡ 0
newlines-quoted_byte b =
    newlines-choice (b == 34) _ _ refl (newlines-choice (b == 92) _ _ refl (newlines-choice (b == 13) _ _ refl (newlines-choice (b == 10) _ _ refl
    (newlines-choice (b == 9) _ _ refl (newlines-printable b (nat_le 32 b && nat_le b 126) (printable_above b))))))

newlines-quoted : (bytes : List ℕ) → newlines (flat_map quoted_byte bytes) ≡ 0
newlines-quoted [] = refl
newlines-quoted (b ∷ bytes) =
    newlines-append (quoted_byte b) (flat_map quoted_byte bytes) ∙ omega (arith, newlines-quoted_byte b, newlines-quoted bytes)

newlines-quotation : (bytes : List ℕ) → newlines (quotation bytes) ≡ 0
newlines-quotation bytes = omega (arith, newlines-append (flat_map quoted_byte bytes) (34 ∷ []), newlines-quoted bytes)

newlines-connection : (c : ℕ) (rest : List ℕ) → IsConnectionNumber c → newlines rest ≡ 0 → newlines (decimal c ++ 32 ∷ rest) ≡ 0
newlines-connection c rest is none = newlines-append (decimal c) (32 ∷ rest) ∙ omega (arith, newlines-decimal c (omega (arith, is)), none)

newlines-flight : (f : NamedFlight) → IsFlightText f → newlines (flight_text f) ≡ 0
newlines-flight First is = refl
newlines-flight (Numbered n) is = newlines-decimal n (omega (arith, is.1))

newlines-form : (target body : List ℕ) → is_visible_text target ≡ true → newlines (target ++ 32 ∷ quotation body) ≡ 0
newlines-form target body is =
    newlines-append target (32 ∷ quotation body) ∙ omega (arith, newlines-target target is, newlines-quotation body)

newlines-action : (action : Action) → newlines (action_text action) ≡ 0
newlines-action Activate = refl
newlines-action Deactivate = refl
newlines-action Delete = refl

newlines-scope : (only : Bool) → newlines (scope_text only) ≡ 0
newlines-scope true = refl
newlines-scope false = refl

newlines-flushed : (action : Action) (handle : List ℕ) (only : Bool) → is_visible_text handle ≡ true → newlines (flushed_text action handle only) ≡ 0
newlines-flushed action handle only is =
    newlines-append (action_text action) (32 ∷ (handle ++ scope_text only))
    ∙ omega (arith, newlines-action action, newlines-append handle (scope_text only), newlines-target handle is, newlines-scope only)

newlines-way : (way : Way) → newlines (way_text way) ≡ 0
newlines-way Old = refl
newlines-way New = refl

newlines-failing : (n : ℕ) (way : Way) → n < 18446744073709551616 → newlines (decimal n ++ 32 ∷ way_text way) ≡ 0
newlines-failing n way small =
    newlines-append (decimal n) (32 ∷ way_text way) ∙ omega (arith, newlines-decimal n (omega (arith, small)), newlines-way way)

pub newlines-line_of : (event : EventLine) → IsEventLine event → newlines (line_of event) ≡ 0
newlines-line_of (Direct target) is = omega (arith, newlines-target target is)
newlines-line_of (Open c peer) is = omega (arith, newlines-connection c peer is.0 (newlines-target peer is.1))
newlines-line_of (Close c) is = omega (arith, newlines-decimal c (omega (arith, is)))
newlines-line_of (Bytes c bytes) is = omega (arith, newlines-connection c (quotation bytes) is.0 (newlines-quotation bytes))
newlines-line_of (Get c target) is = omega (arith, newlines-connection c target is.0 (newlines-target target is.1))
newlines-line_of (Post c target body) is = omega (arith, newlines-connection c (target ++ 32 ∷ quotation body) is.0 (newlines-form target body is.1))
newlines-line_of (Flush c action handle only) is =
    omega (arith, newlines-connection c (flushed_text action handle only) is.0 (newlines-flushed action handle only is.1))
newlines-line_of (Render flight) is = omega (arith, newlines-flight flight is)
newlines-line_of (Deliver flight) is = omega (arith, newlines-flight flight is)
newlines-line_of (Lose flight) is = omega (arith, newlines-flight flight is)
newlines-line_of Purge is = refl
newlines-line_of Restart is = refl
newlines-line_of (Fail n way) is = omega (arith, newlines-failing n way is.1)
newlines-line_of (Stop n way) is = omega (arith, newlines-failing n way is.1)

-- ---- a line tells its event

one_connection : (c d : ℕ) (r s : List ℕ) → IsConnectionNumber c → IsConnectionNumber d → decimal c ++ 32 ∷ r ≡ decimal d ++ 32 ∷ s → (c ≡ d) × (r ≡ s)
one_connection c d r s p q e = one_number 32 c d r s refl (omega (arith, p)) (omega (arith, q)) e

one_flight : (f g : NamedFlight) → IsFlightText f → IsFlightText g → flight_text f ≡ flight_text g → f ≡ g
one_flight First First p q e = refl
one_flight First (Numbered n) p q e = absurd (decimal_not_first n (omega (arith, q.1)) e)
one_flight (Numbered n) First p q e = absurd (decimal_not_first n (omega (arith, p.1)) (sym e))
one_flight (Numbered n) (Numbered m) p q e = ap (λ k. Numbered k) (decimal_injective n m (omega (arith, p.1)) (omega (arith, q.1)) e)

one_quotation : (x y : List ℕ) → quotation x ≡ quotation y → x ≡ y
one_quotation x y e = (one_quoted x y [] [] (ap (λ t. t ++ []) e)).0

pub action_no_blank : (action : Action) → list_all not_blank (action_text action) ≡ true
action_no_blank Activate = refl
action_no_blank Deactivate = refl
action_no_blank Delete = refl

pub one_action : (a b : Action) → action_text a ≡ action_text b → a ≡ b
one_action Activate Activate e = refl
one_action Deactivate Deactivate e = refl
one_action Delete Delete e = refl
one_action a b e = absurd (omega (arith, ap (λ t. get_or t 0 0) e, ap (λ t. get_or t 2 0) e))

one_scoped : (h k : List ℕ) (x y : Bool) → is_visible_text h ≡ true → is_visible_text k ≡ true → h ++ scope_text x ≡ k ++ scope_text y → (h ≡ k) × (x ≡ y)
one_scoped h k true true p q e =
    ((one_first_word h k (codes "only") (codes "only") (target_no_blank h p) (target_no_blank k q) e).0, refl)
one_scoped h k true false p q e =
    absurd (not_cut h (codes "only") (ap (list_all not_blank) (e ∙ append-nil k) ∙ target_no_blank k q))
one_scoped h k false true p q e =
    absurd (not_cut k (codes "only") (ap (list_all not_blank) (sym e ∙ append-nil h) ∙ target_no_blank h p))
one_scoped h k false false p q e = (sym (append-nil h) ∙ e ∙ append-nil k, refl)

-- what stands before ` only` is the handle
pub before_scope : (word handle : List ℕ) (only : Bool) → list_all not_blank word ≡ true → is_visible_text handle ≡ true
    → word ++ codes " only" ≡ handle ++ scope_text only → word ≡ handle
before_scope word handle true none is e = (one_first_word word handle (codes "only") (codes "only") none (target_no_blank handle is) e).0
before_scope word handle false none is e =
    absurd (not_cut word (codes "only") (ap (list_all not_blank) (e ∙ append-nil handle) ∙ target_no_blank handle is))

-- where no ` only` stands all is the handle
pub without_scope : (text handle : List ℕ) (only : Bool) → ((word : List ℕ) → list_all not_blank word ≡ true → text ≢ word ++ codes " only")
    → is_visible_text handle ≡ true → text ≡ handle ++ scope_text only → text ≡ handle
without_scope text handle true none is e = absurd (none handle (target_no_blank handle is) e)
without_scope text handle false none is e = e ∙ append-nil handle

one_flushed : (a b : Action) (h k : List ℕ) (x y : Bool) → is_visible_text h ≡ true → is_visible_text k ≡ true → flushed_text a h x ≡ flushed_text b k y
    → (a ≡ b) × (h ≡ k) × (x ≡ y)
one_flushed a b h k x y p q e =
    let words = one_first_word (action_text a) (action_text b) (h ++ scope_text x) (k ++ scope_text y) (action_no_blank a) (action_no_blank b) e in
    let scoped = one_scoped h k x y p q words.1 in
    (one_action a b words.0, scoped.0, scoped.1)

one_way : (v w : Way) → way_text v ≡ way_text w → v ≡ w
one_way Old Old e = refl
one_way New New e = refl
one_way v w e = absurd (omega (arith, ap (λ t. get_or t 0 0) e))

pub one_event : (a b : EventLine) → IsEventLine a → IsEventLine b → line_of a ≡ line_of b → a ≡ b
one_event (Direct s) (Direct t) p q e = ap (λ v. Direct v) (ap (drop 7) e)
one_event (Open c s) (Open d t) p q e =
    let same = one_connection c d s t p.0 q.0 (ap (drop 5) e) in cc (same.0, same.1)
one_event (Close c) (Close d) p q e = ap (λ n. Close n) (decimal_injective c d (omega (arith, p)) (omega (arith, q)) (ap (drop 6) e))
one_event (Bytes c x) (Bytes d y) p q e =
    let same = one_connection c d (quotation x) (quotation y) p.0 q.0 (ap (drop 6) e) in
    let bytes = one_quotation x y same.1 in cc (same.0, bytes)
one_event (Get c s) (Get d t) p q e =
    let same = one_connection c d s t p.0 q.0 (ap (drop 4) e) in cc (same.0, same.1)
one_event (Post c s x) (Post d t y) p q e =
    let same = one_connection c d (s ++ 32 ∷ quotation x) (t ++ 32 ∷ quotation y) p.0 q.0 (ap (drop 5) e) in
    let form = one_first_word s t (quotation x) (quotation y) (target_no_blank s p.1) (target_no_blank t q.1) same.1 in
    let body = one_quotation x y form.1 in cc (same.0, form.0, body)
one_event (Flush c a h x) (Flush d b k y) p q e =
    let same = one_connection c d (flushed_text a h x) (flushed_text b k y) p.0 q.0 (ap (drop 6) e) in
    let flush = one_flushed a b h k x y p.1 q.1 same.1 in cc (same.0, flush.0, flush.1, flush.2)
one_event (Render f) (Render g) p q e = ap (λ v. Render v) (one_flight f g p q (ap (drop 7) e))
one_event (Deliver f) (Deliver g) p q e = ap (λ v. Deliver v) (one_flight f g p q (ap (drop 8) e))
one_event (Lose f) (Lose g) p q e = ap (λ v. Lose v) (one_flight f g p q (ap (drop 5) e))
one_event Purge Purge p q e = refl
one_event Restart Restart p q e = refl
one_event (Fail n v) (Fail m w) p q e =
    let same = one_number 32 n m (way_text v) (way_text w) refl (omega (arith, p.1)) (omega (arith, q.1)) (ap (drop 5) e) in
    let way = one_way v w same.1 in cc (same.0, way)
one_event (Stop n v) (Stop m w) p q e =
    let same = one_number 32 n m (way_text v) (way_text w) refl (omega (arith, p.1)) (omega (arith, q.1)) (ap (drop 5) e) in
    let way = one_way v w same.1 in cc (same.0, way)
one_event a b p q e = absurd (omega (arith, ap (λ t. get_or t 0 0) e, ap (λ t. get_or t 1 0) e, ap (λ t. get_or t 2 0) e))

-- the end is the line of no event
pub event_is_not_end : (event : EventLine) → line_of event ≢ codes "end"
event_is_not_end (Direct target) e = absurd (omega (arith, ap (λ t. get_or t 0 0) e))
event_is_not_end (Open c peer) e = absurd (omega (arith, ap (λ t. get_or t 0 0) e))
event_is_not_end (Close c) e = absurd (omega (arith, ap (λ t. get_or t 0 0) e))
event_is_not_end (Bytes c bytes) e = absurd (omega (arith, ap (λ t. get_or t 0 0) e))
event_is_not_end (Get c target) e = absurd (omega (arith, ap (λ t. get_or t 0 0) e))
event_is_not_end (Post c target body) e = absurd (omega (arith, ap (λ t. get_or t 0 0) e))
event_is_not_end (Render flight) e = absurd (omega (arith, ap (λ t. get_or t 0 0) e))
event_is_not_end (Deliver flight) e = absurd (omega (arith, ap (λ t. get_or t 0 0) e))
event_is_not_end (Lose flight) e = absurd (omega (arith, ap (λ t. get_or t 0 0) e))
event_is_not_end (Flush c action handle only) e = absurd (omega (arith, ap (λ t. get_or t 0 0) e))
event_is_not_end Purge e = absurd (omega (arith, ap (λ t. get_or t 0 0) e))
event_is_not_end Restart e = absurd (omega (arith, ap (λ t. get_or t 0 0) e))
event_is_not_end (Fail n way) e = absurd (omega (arith, ap (λ t. get_or t 0 0) e))
event_is_not_end (Stop n way) e = absurd (omega (arith, ap (λ t. get_or t 0 0) e))

-- nor is the line that begins a farm
pub event_is_not_farm : (event : EventLine) → line_of event ≢ codes "farm"
event_is_not_farm (Direct target) e = absurd (omega (arith, ap (λ t. get_or t 0 0) e))
event_is_not_farm (Open c peer) e = absurd (omega (arith, ap (λ t. get_or t 0 0) e))
event_is_not_farm (Close c) e = absurd (omega (arith, ap (λ t. get_or t 0 0) e))
event_is_not_farm (Bytes c bytes) e = absurd (omega (arith, ap (λ t. get_or t 0 0) e))
event_is_not_farm (Get c target) e = absurd (omega (arith, ap (λ t. get_or t 0 0) e))
event_is_not_farm (Post c target body) e = absurd (omega (arith, ap (λ t. get_or t 0 0) e))
event_is_not_farm (Render flight) e = absurd (omega (arith, ap (λ t. get_or t 0 0) e))
event_is_not_farm (Deliver flight) e = absurd (omega (arith, ap (λ t. get_or t 0 0) e))
event_is_not_farm (Lose flight) e = absurd (omega (arith, ap (λ t. get_or t 0 0) e))
event_is_not_farm (Flush c action handle only) e = absurd (omega (arith, ap (λ t. get_or t 1 0) e))
event_is_not_farm Purge e = absurd (omega (arith, ap (λ t. get_or t 0 0) e))
event_is_not_farm Restart e = absurd (omega (arith, ap (λ t. get_or t 0 0) e))
event_is_not_farm (Fail n way) e = absurd (omega (arith, ap (λ t. get_or t 2 0) e))
event_is_not_farm (Stop n way) e = absurd (omega (arith, ap (λ t. get_or t 0 0) e))
