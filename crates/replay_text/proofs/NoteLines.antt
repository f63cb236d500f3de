-- A line of a transcript is read back: what it tells of its note, part by part.
use Rattle.std.proofs.Common.{◌≡◌, ◌<◌, ◌^◌, ◌++◌, ◌∙◌, ℕ, Bool, true, false, List, [], ◌∷◌, Option, Some, None, codes, sym, ap, refl, arith, drop, get_or, append_assoc}
use Rattle.std.specs.Fmt.{decimal}
use Rattle.sp_base.specs.declared.answer.Answer.{Answer}
use Rattle.sp_base.specs.declared.answer.Mark.{Mark}
use Rattle.sp_base.specs.declared.answer.Mark.TheVariants.{Plain, NoCache, NoStore, MustRevalidate}
use Rattle.sp_base.specs.Paths.{mangled_segs, text_of}
use Rattle.cover_rules.specs.Pages.{page_text}
use Rattle.cover_rules.specs.declared.page.PageKey.{PageKey}
use Rattle.cover_rules.specs.declared.invalidation.Action.{Action}
use Rattle.cover_rules.specs.declared.invalidation.Invalidation.{Invalidation}
use Rattle.replay_text.specs.Transcript.{quotation, quotation_or_dash, mark_text, answer_text, key_text, action_text, scope_word, invalidation_text}
use Rattle.replay_text.proofs.Escapes.{one_quoted}
use Rattle.replay_text.proofs.EventLaws.{action_no_blank, one_action}
use Rattle.replay_text.proofs.HandleLaws.{HandlesTell}
use Rattle.replay_text.proofs.NumberLemmas.{one_number}
use Rattle.replay_text.proofs.PageLaws.{KeysTell}
use Rattle.replay_text.proofs.WordLemmas.{one_first_word}
use Rattle.run_events.specs.Named.{IsPage, IsHandle}

-- a text that stands for another, or a dash where that is empty
abbrev dash_or : List ℕ → List ℕ → List ℕ
dash_or [] spelling = codes "-"
dash_or (b ∷ x) spelling = spelling

dash_or_quoted : (x : List ℕ) → quotation_or_dash x ≡ dash_or x (quotation x)
dash_or_quoted [] = refl
dash_or_quoted (b ∷ x) = refl

one_dash_or : (x y p q r s : List ℕ) → get_or (p ++ r) 0 0 ≡ 34 → get_or (q ++ s) 0 0 ≡ 34 → (p ++ r ≡ q ++ s → (x ≡ y) × (r ≡ s))
    → dash_or x p ++ r ≡ dash_or y q ++ s → (x ≡ y) × (r ≡ s)
one_dash_or [] [] p q r s hp hq both e = (refl, ap (drop 1) e)
one_dash_or [] (c ∷ y) p q r s hp hq both e = absurd (omega (arith, ap (λ t. get_or t 0 0) e, hq))
one_dash_or (b ∷ x) [] p q r s hp hq both e = absurd (omega (arith, ap (λ t. get_or t 0 0) e, hp))
one_dash_or (b ∷ x) (c ∷ y) p q r s hp hq both e = both e

one_quoted_or_dash : (x y r s : List ℕ) → quotation_or_dash x ++ r ≡ quotation_or_dash y ++ s → (x ≡ y) × (r ≡ s)
one_quoted_or_dash x y r s e =
    one_dash_or x y (quotation x) (quotation y) r s refl refl (one_quoted x y r s)
    (sym (ap (λ t. t ++ r) (dash_or_quoted x)) ∙ e ∙ ap (λ t. t ++ s) (dash_or_quoted y))

one_mark : (m n : Mark) (r s : List ℕ) → mark_text m ++ 32 ∷ r ≡ mark_text n ++ 32 ∷ s → (m ≡ n) × (r ≡ s)
one_mark Plain Plain r s e = (refl, ap (drop 2) e)
one_mark Plain NoCache r s e = absurd (omega (arith, ap (λ t. get_or t 0 0) e))
one_mark Plain NoStore r s e = absurd (omega (arith, ap (λ t. get_or t 0 0) e))
one_mark Plain MustRevalidate r s e = absurd (omega (arith, ap (λ t. get_or t 0 0) e))
one_mark NoCache Plain r s e = absurd (omega (arith, ap (λ t. get_or t 0 0) e))
one_mark NoCache NoCache r s e = (refl, ap (drop 9) e)
one_mark NoCache NoStore r s e = absurd (omega (arith, ap (λ t. get_or t 3 0) e))
one_mark NoCache MustRevalidate r s e = absurd (omega (arith, ap (λ t. get_or t 0 0) e))
one_mark NoStore Plain r s e = absurd (omega (arith, ap (λ t. get_or t 0 0) e))
one_mark NoStore NoCache r s e = absurd (omega (arith, ap (λ t. get_or t 3 0) e))
one_mark NoStore NoStore r s e = (refl, ap (drop 9) e)
one_mark NoStore MustRevalidate r s e = absurd (omega (arith, ap (λ t. get_or t 0 0) e))
one_mark MustRevalidate Plain r s e = absurd (omega (arith, ap (λ t. get_or t 0 0) e))
one_mark MustRevalidate NoCache r s e = absurd (omega (arith, ap (λ t. get_or t 0 0) e))
one_mark MustRevalidate NoStore r s e = absurd (omega (arith, ap (λ t. get_or t 0 0) e))
one_mark MustRevalidate MustRevalidate r s e = (refl, ap (drop 16) e)

-- the parts of an answer's line, one after the other
parts : (d k l m q r : List ℕ) → (d ++ 32 ∷ [] ++ k ++ 32 ∷ [] ++ l ++ 32 ∷ [] ++ m ++ 32 ∷ [] ++ q) ++ r
    ≡ d ++ (32 ∷ (k ++ (32 ∷ (l ++ (32 ∷ (m ++ (32 ∷ (q ++ r))))))))
parts d k l m q r =
    let b : List ℕ = 32 ∷ [] in
    append_assoc (d ++ b ++ k ++ b ++ l ++ b ++ m ++ b) q r
    ∙ append_assoc (d ++ b ++ k ++ b ++ l ++ b ++ m) b (q ++ r)
    ∙ append_assoc (d ++ b ++ k ++ b ++ l ++ b) m (32 ∷ (q ++ r))
    ∙ append_assoc (d ++ b ++ k ++ b ++ l) b (m ++ (32 ∷ (q ++ r)))
    ∙ append_assoc (d ++ b ++ k ++ b) l (32 ∷ (m ++ (32 ∷ (q ++ r))))
    ∙ append_assoc (d ++ b ++ k) b (l ++ (32 ∷ (m ++ (32 ∷ (q ++ r)))))
    ∙ append_assoc (d ++ b) k (32 ∷ (l ++ (32 ∷ (m ++ (32 ∷ (q ++ r))))))
    ∙ append_assoc d b (k ++ (32 ∷ (l ++ (32 ∷ (m ++ (32 ∷ (q ++ r)))))))

answer_spread : (a : Answer) (r : List ℕ) → answer_text a ++ r
    ≡ decimal a.status ++ (32 ∷ (quotation_or_dash a.kind ++ (32 ∷ (quotation_or_dash a.location ++ (32 ∷ (mark_text a.mark ++ (32 ∷ (quotation a.body ++ r))))))))
answer_spread a r = parts (decimal a.status) (quotation_or_dash a.kind) (quotation_or_dash a.location) (mark_text a.mark) (quotation a.body) r

same_answer : (a b : Answer) → a.status ≡ b.status → a.kind ≡ b.kind → a.location ≡ b.location → a.mark ≡ b.mark → a.body ≡ b.body → a ≡ b
same_answer a b status kind location mark body =
    let make : ℕ → List ℕ → List ℕ → Mark → List ℕ → Answer = λ n k l m t. record { status = n; kind = k; location = l; mark = m; body = t } in
    ap (λ n. make n a.kind a.location a.mark a.body) status ∙ ap (λ k. make b.status k a.location a.mark a.body) kind
    ∙ ap (λ l. make b.status b.kind l a.mark a.body) location ∙ ap (λ m. make b.status b.kind b.location m a.body) mark
    ∙ ap (λ t. make b.status b.kind b.location b.mark t) body

pub one_answer : (a b : Answer) (r s : List ℕ) → a.status < 2 ^ 16 → b.status < 2 ^ 16 → answer_text a ++ r ≡ answer_text b ++ s → (a ≡ b) × (r ≡ s)
one_answer a b r s p q e =
    let status = one_number 32 a.status b.status _ _ refl (omega (arith, p)) (omega (arith, q)) (sym (answer_spread a r) ∙ e ∙ answer_spread b s) in
    let kind = one_quoted_or_dash a.kind b.kind _ _ status.1 in
    let location = one_quoted_or_dash a.location b.location _ _ (ap (drop 1) kind.1) in
    let mark = one_mark a.mark b.mark _ _ (ap (drop 1) location.1) in
    let body = one_quoted a.body b.body r s mark.1 in
    (same_answer a b status.0 kind.0 location.0 mark.0 body.0, body.1)

-- ---- the lines of notes

spread_two : (x y r : List ℕ) → (x ++ 32 ∷ [] ++ y) ++ r ≡ x ++ (32 ∷ (y ++ r))
spread_two x y r = let b : List ℕ = 32 ∷ [] in append_assoc (x ++ b) y r ∙ append_assoc x b (y ++ r)

spread_three : (x y z r : List ℕ) → (x ++ 32 ∷ [] ++ y ++ 32 ∷ [] ++ z) ++ r ≡ x ++ (32 ∷ (y ++ (32 ∷ (z ++ r))))
spread_three x y z r =
    let b : List ℕ = 32 ∷ [] in
    append_assoc (x ++ b ++ y ++ b) z r ∙ append_assoc (x ++ b ++ y) b (z ++ r) ∙ append_assoc (x ++ b) y (32 ∷ (z ++ r)) ∙ append_assoc x b (y ++ (32 ∷ (z ++ r)))

-- a number at the end of a line
pub last_number : (m n : ℕ) (r s : List ℕ) → m < 2 ^ 64 → n < 2 ^ 64 → decimal m ++ 10 ∷ r ≡ decimal n ++ 10 ∷ s → (m ≡ n) × (r ≡ s)
last_number m n r s p q e = one_number 10 m n r s refl p q e

last_key : KeysTell → (a b : Option PageKey) (r s : List ℕ) → IsPage a → IsPage b → key_text a ++ 10 ∷ r ≡ key_text b ++ 10 ∷ s → (a ≡ b) × (r ≡ s)
last_key tell None None r s p q e = (refl, ap (drop 2) e)
last_key tell None (Some l) r s p q e = absurd (omega (arith, ap (λ t. get_or t 0 0) e))
last_key tell (Some k) None r s p q e = absurd (omega (arith, ap (λ t. get_or t 0 0) e))
last_key tell (Some k) (Some l) r s p q e =
    let text = one_quoted (page_text k) (page_text l) (10 ∷ r) (10 ∷ s) e in
    (ap (λ x. Some x) (tell k l p q text.0), ap (drop 1) text.1)

pub one_ask : KeysTell → (m n c d : ℕ) (k l : Option PageKey) (r s : List ℕ) → m < 2 ^ 64 → n < 2 ^ 64 → c < 2 ^ 32 → d < 2 ^ 32 → IsPage k → IsPage l
    → (decimal m ++ 32 ∷ [] ++ decimal c ++ 32 ∷ [] ++ key_text k) ++ 10 ∷ r ≡ (decimal n ++ 32 ∷ [] ++ decimal d ++ 32 ∷ [] ++ key_text l) ++ 10 ∷ s
    → (m ≡ n) × (c ≡ d) × (k ≡ l) × (r ≡ s)
one_ask tell m n c d k l r s pm pn pc pd pk pl e =
    let flight = one_number 32 m n _ _ refl pm pn
    (sym (spread_three (decimal m) (decimal c) (key_text k) (10 ∷ r)) ∙ e ∙ spread_three (decimal n) (decimal d) (key_text l) (10 ∷ s)) in
    let line = one_number 32 c d _ _ refl (omega (arith, pc)) (omega (arith, pd)) flight.1 in
    let key = last_key tell k l r s pk pl line.1 in
    (flight.0, line.0, key.0, key.1)

pub one_local : (c d u v : ℕ) (r s : List ℕ) → c < 2 ^ 32 → d < 2 ^ 32 → u < 2 ^ 16 → v < 2 ^ 16
    → (decimal c ++ 32 ∷ [] ++ decimal u) ++ 10 ∷ r ≡ (decimal d ++ 32 ∷ [] ++ decimal v) ++ 10 ∷ s → (c ≡ d) × (u ≡ v) × (r ≡ s)
one_local c d u v r s pc pd pu pv e =
    let line = one_number 32 c d _ _ refl (omega (arith, pc)) (omega (arith, pd))
    (sym (spread_two (decimal c) (decimal u) (10 ∷ r)) ∙ e ∙ spread_two (decimal d) (decimal v) (10 ∷ s)) in
    let status = last_number u v r s (omega (arith, pu)) (omega (arith, pv)) line.1 in
    (line.0, status.0, status.1)

pub one_rendered : (m n : ℕ) (a b : Answer) (r s : List ℕ) → m < 2 ^ 64 → n < 2 ^ 64 → a.status < 2 ^ 16 → b.status < 2 ^ 16
    → (decimal m ++ 32 ∷ [] ++ answer_text a) ++ 10 ∷ r ≡ (decimal n ++ 32 ∷ [] ++ answer_text b) ++ 10 ∷ s → (m ≡ n) × (a ≡ b) × (r ≡ s)
one_rendered m n a b r s pm pn pa pb e =
    let flight = one_number 32 m n _ _ refl pm pn
    (sym (spread_two (decimal m) (answer_text a) (10 ∷ r)) ∙ e ∙ spread_two (decimal n) (answer_text b) (10 ∷ s)) in
    let answer = one_answer a b (10 ∷ r) (10 ∷ s) pa pb flight.1 in
    (flight.0, answer.0, ap (drop 1) answer.1)

pub one_sent : (c d : ℕ) (x y r s : List ℕ) → c < 2 ^ 32 → d < 2 ^ 32
    → (decimal c ++ 32 ∷ [] ++ quotation x) ++ 10 ∷ r ≡ (decimal d ++ 32 ∷ [] ++ quotation y) ++ 10 ∷ s → (c ≡ d) × (x ≡ y) × (r ≡ s)
one_sent c d x y r s pc pd e =
    let line = one_number 32 c d _ _ refl (omega (arith, pc)) (omega (arith, pd))
    (sym (spread_two (decimal c) (quotation x) (10 ∷ r)) ∙ e ∙ spread_two (decimal d) (quotation y) (10 ∷ s)) in
    let bytes = one_quoted x y (10 ∷ r) (10 ∷ s) line.1 in
    (line.0, bytes.0, ap (drop 1) bytes.1)

pub one_page : KeysTell → (c d : ℕ) (k l : PageKey) (r s : List ℕ) → c < 2 ^ 64 → d < 2 ^ 64 → IsPage (Some k) → IsPage (Some l)
    → (decimal c ++ 32 ∷ [] ++ key_text (Some k)) ++ 10 ∷ r ≡ (decimal d ++ 32 ∷ [] ++ key_text (Some l)) ++ 10 ∷ s → (c ≡ d) × (k ≡ l) × (r ≡ s)
one_page tell c d k l r s pc pd pk pl e =
    let line = one_number 32 c d _ _ refl pc pd
    (sym (spread_two (decimal c) (key_text (Some k)) (10 ∷ r)) ∙ e ∙ spread_two (decimal d) (key_text (Some l)) (10 ∷ s)) in
    let text = one_quoted (page_text k) (page_text l) (10 ∷ r) (10 ∷ s) line.1 in
    (line.0, tell k l pk pl text.0, ap (drop 1) text.1)

one_scope_word : (x y : Bool) (r s : List ℕ) → scope_word x ++ 10 ∷ r ≡ scope_word y ++ 10 ∷ s → (x ≡ y) × (r ≡ s)
one_scope_word true true r s e = (refl, ap (drop 5) e)
one_scope_word true false r s e = absurd (omega (arith, ap (λ t. get_or t 0 0) e))
one_scope_word false true r s e = absurd (omega (arith, ap (λ t. get_or t 0 0) e))
one_scope_word false false r s e = (refl, ap (drop 4) e)

same_invalidation : (i j : Invalidation) → i.action ≡ j.action → i.handle ≡ j.handle → i.only ≡ j.only → i ≡ j
same_invalidation i j action handle only =
    let make : Action → List (List ℕ) → Bool → Invalidation = λ a h o. record { action = a; handle = h; only = o } in
    ap (λ a. make a i.handle i.only) action ∙ ap (λ h. make j.action h i.only) handle ∙ ap (λ o. make j.action j.handle o) only

one_invalidation : HandlesTell → (i j : Invalidation) (r s : List ℕ) → IsHandle i.handle → IsHandle j.handle
    → invalidation_text i ++ 10 ∷ r ≡ invalidation_text j ++ 10 ∷ s → (i ≡ j) × (r ≡ s)
one_invalidation tell i j r s p q e =
    let handle : Invalidation → List ℕ = λ inv. quotation (text_of (mangled_segs inv.handle)) in
    let action = one_first_word (action_text i.action) (action_text j.action) _ _ (action_no_blank i.action) (action_no_blank j.action)
    (sym (spread_three (action_text i.action) (handle i) (scope_word i.only) (10 ∷ r)) ∙ e
    ∙ spread_three (action_text j.action) (handle j) (scope_word j.only) (10 ∷ s)) in
    let text = one_quoted (text_of (mangled_segs i.handle)) (text_of (mangled_segs j.handle)) _ _ action.1 in
    let scope = one_scope_word i.only j.only r s (ap (drop 1) text.1) in
    (same_invalidation i j (one_action i.action j.action action.0) (tell i.handle j.handle p q text.0) scope.0, scope.1)

pub one_flush : HandlesTell → (v w : ℕ) (i j : Invalidation) (r s : List ℕ) → v < 2 ^ 64 → w < 2 ^ 64 → IsHandle i.handle → IsHandle j.handle
    → (decimal v ++ 32 ∷ [] ++ invalidation_text i) ++ 10 ∷ r ≡ (decimal w ++ 32 ∷ [] ++ invalidation_text j) ++ 10 ∷ s → (v ≡ w) × (i ≡ j) × (r ≡ s)
one_flush tell v w i j r s pv pw pi pj e =
    let number = one_number 32 v w _ _ refl pv pw
    (sym (spread_two (decimal v) (invalidation_text i) (10 ∷ r)) ∙ e ∙ spread_two (decimal w) (invalidation_text j) (10 ∷ s)) in
    let inv = one_invalidation tell i j r s pi pj number.1 in
    (number.0, inv.0, inv.1)
