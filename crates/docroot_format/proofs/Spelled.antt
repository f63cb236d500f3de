-- What reads as a number, a stamp, a head or an epoch is its text: the converse of reading back.
use Rattle.std.proofs.Common.{◌≡◌, ◌<◌, ◌≤◌, ◌+◌, ◌-◌, ◌*◌, ◌/◌, ◌%◌, ◌^◌, ℕ, zero, suc, Bool, true, false, not, ◌&&◌, ◌==◌, ◌++◌, List, [], ◌∷◌, Option, Some, None, length, take, drop, slice_index, nat_le, nat_eq, nat_lt, codes, refl, sym, ◌∙◌, ap, subst, arith, append_assoc, ⊎_elim, option_and_then, option_map}
use Rattle.std.specs.Fmt.{decimal}
use Rattle.std.specs.Cmp.Lexicographic.{bytes_decides}
use Rattle.std.specs.List.{starts_with}
use Rattle.std.proofs.lemmas.Bool.{cases_Bool, true≢false}
use Rattle.std.proofs.lemmas.Bool.Decides.{nat_tests}
use Rattle.std.proofs.lemmas.Fmt.{decimal_digit, decimal_step}
use Rattle.std.proofs.lemmas.List.{take-append-drop}
use Rattle.std.proofs.lemmas.Option.{cond_some}
use Rattle.sp_base.specs.Bytes.{is_digit}
use Rattle.sp_base.specs.Limits.{greatest_u64}
use Rattle.sp_base.specs.MediaTypes.{is_kind}
use Rattle.sp_base.proofs.BoolLemmas.{and_first, and_second}
use Rattle.sp_base.proofs.TextLemmas.{begins_with}
use Rattle.cover_rules.specs.declared.stamp.Stamp.{Stamp}
use Rattle.docroot_format.specs.Readings.{digit_fits, digits_from, begins_number, leading_number, after_word, is_end, stamp_of, stat_of, epoch_of, stored_kind, HeadLine, body_of, head_of}
use Rattle.docroot_format.specs.Texts.{head_text, stat_text, epoch_text}
use Rattle.docroot_format.proofs.NameLemmas.{append_both}
use Rattle.docroot_format.proofs.ReadBack.{digit, ends}

-- ---- numbers

digit_spelled : (m k : ℕ) → 1 ≤ m → k < 10 → m * 10 + k < 2 ^ 64 → decimal (m * 10 + k) ≡ decimal m ++ (48 + k) ∷ []
digit_spelled m k some small short =
    let leading : (m * 10 + k) / 10 ≡ m = omega (arith, small) in
    let last : (m * 10 + k) % 10 ≡ k = omega (arith, small) in
    decimal_step (m * 10 + k) (omega (arith, some)) short
    ∙ ap (λ q. decimal q ++ (48 + (m * 10 + k) % 10) ∷ []) leading
    ∙ ap (λ r. decimal m ++ (48 + r) ∷ []) last

digits_spelled : (t : List ℕ) (m : ℕ) → 1 ≤ m → decimal m ++ t ≡ decimal (digits_from m t).0 ++ (digits_from m t).1
unfolding digit_fits digits_from
digits_spelled [] m some = refl
digits_spelled (b ∷ t) m some = ⊎_elim
    (λ (e : is_digit b && nat_le (m * 10 + (b - 48)) greatest_u64 ≡ true).
    let small : b - 48 < 10 = grind (arith, nat_tests) in
    let is : 48 + (b - 48) ≡ b = grind (arith, nat_tests) in
    let short : m * 10 + (b - 48) < 2 ^ 64 = grind (arith, nat_tests) in
    rw e (sym (append_assoc (decimal m) (b ∷ []) t)
    ∙ ap (λ x. (decimal m ++ x ∷ []) ++ t) (sym is)
    ∙ ap (λ d. d ++ t) (sym (digit_spelled m (b - 48) some small short))
    ∙ digits_spelled t (m * 10 + (b - 48)) (omega (arith, some))))
    (λ (e : is_digit b && nat_le (m * 10 + (b - 48)) greatest_u64 ≡ false). rw e refl)
    (cases_Bool (is_digit b && nat_le (m * 10 + (b - 48)) greatest_u64))

first_spelled : (k : ℕ) (t : List ℕ) → k < 10 → (k ≡ 0 → is_digit (slice_index t 0) ≡ false)
    → (48 + k) ∷ t ≡ decimal (digits_from 0 ((48 + k) ∷ t)).0 ++ (digits_from 0 ((48 + k) ∷ t)).1
first_spelled zero t small none =
    let d : digits_from 0 (48 ∷ t) ≡ (0, t) = digit 0 0 0 t (omega arith) (omega arith) (omega arith) ∙ ends 0 t (none refl) in
    ap (λ x. x ++ t) (sym (decimal_digit 0 (omega arith))) ∙ ap (λ p. decimal p.0 ++ p.1) (sym d)
first_spelled (suc k) t small none =
    let d : digits_from 0 ((48 + suc k) ∷ t) ≡ digits_from (suc k) t = digit 0 (suc k) (suc k) t small (omega arith) (omega (arith, small)) in
    ap (λ x. x ++ t) (sym (decimal_digit (suc k) small)) ∙ digits_spelled t (suc k) (omega arith) ∙ ap (λ p. decimal p.0 ++ p.1) (sym d)

no_digit_after : (zero_first next : Bool) → not (zero_first && next) ≡ true → zero_first ≡ true → next ≡ false
no_digit_after true true e is = absurd (true≢false (sym e))
no_digit_after true false e is = refl
no_digit_after false next e is = absurd (true≢false (sym is))

number_spelled : (t : List ℕ) (p : ℕ × List ℕ) → leading_number t ≡ Some p → t ≡ decimal p.0 ++ p.1
unfolding leading_number
number_spelled [] p e = absurd (cc (e))
number_spelled (b ∷ t) p e =
    let s = cond_some (begins_number (b ∷ t)) (digits_from 0 (b ∷ t)) p e in
    let is_first : is_digit b ≡ true = and_first (is_digit b) (not (b == 48 && is_digit (slice_index t 0))) s.0 in
    let small : b - 48 < 10 = grind (arith, nat_tests) in
    let is : 48 + (b - 48) ≡ b = grind (arith, nat_tests) in
    let none : b - 48 ≡ 0 → is_digit (slice_index t 0) ≡ false = λ z.
    let begins : (b == 48) ≡ true = grind (arith, nat_tests) in
    no_digit_after (b == 48) (is_digit (slice_index t 0)) (and_second (is_digit b) (not (b == 48 && is_digit (slice_index t 0))) s.0) begins in
    subst (λ x. x ∷ t ≡ decimal (digits_from 0 (x ∷ t)).0 ++ (digits_from 0 (x ∷ t)).1) is (first_spelled (b - 48) t small none)
    ∙ ap (λ q. decimal q.0 ++ q.1) s.1

-- ---- words, and the end

word_spelled : (word text rest : List ℕ) → after_word word text ≡ Some rest → text ≡ word ++ rest
unfolding after_word
word_spelled word text rest e =
    let s = cond_some (starts_with nat_eq text word) (drop (length word) text) rest e in
    begins_with text word s.0 ∙ ap (λ (t : List ℕ). word ++ t) s.1

end_spelled : (rest : List ℕ) → is_end rest ≡ true → rest ≡ codes "\n"
end_spelled rest e = (bytes_decides rest (codes "\n")).0 e

record Then {A B : Type 0} (f : A → Option B) (o : Option A) (y : B) : Type 0 where
  first : A
  is : o ≡ Some first
  next : f first ≡ Some y

then_some : {A B : Type 0} (f : A → Option B) (o : Option A) (y : B) → option_and_then f o ≡ Some y → Then f o y
then_some f None y e = absurd (cc (e))
then_some f (Some x) y e = record { first = x; is = refl; next = e }

record Mapped {A B : Type 0} (f : A → B) (o : Option A) (y : B) : Type 0 where
  first : A
  is : o ≡ Some first
  same : f first ≡ y

map_some : {A B : Type 0} (f : A → B) (o : Option A) (y : B) → option_map f o ≡ Some y → Mapped f o y
map_some f None y e = absurd (cc (e))
map_some f (Some x) y e = record { first = x; is = refl; same = cc (e) }

-- ---- the texts

nested : (a b c d e : List ℕ) → a ++ (b ++ (c ++ (d ++ e))) ≡ (((a ++ b) ++ c) ++ d) ++ e
nested a b c d e = append_both a b (c ++ (d ++ e)) ∙ append_both (a ++ b) c (d ++ e) ∙ append_both ((a ++ b) ++ c) d e

stamp_spelled : (text : List ℕ) (s : Stamp × List ℕ) → stamp_of text ≡ Some s → text ≡ decimal s.0.epoch ++ (codes " " ++ (decimal s.0.count ++ s.1))
unfolding stamp_of
stamp_spelled text s e =
    let a = then_some _ (leading_number text) s e in
    let b = then_some _ (after_word (codes " ") a.first.1) s a.next in
    let c = map_some _ (leading_number b.first) s b.next in
    number_spelled text a.first a.is
    ∙ ap (λ t. decimal a.first.0 ++ t) (word_spelled (codes " ") a.first.1 b.first b.is)
    ∙ ap (λ t. decimal a.first.0 ++ (codes " " ++ t)) (number_spelled b.first c.first c.is)
    ∙ ap (λ (z : Stamp × List ℕ). decimal z.0.epoch ++ (codes " " ++ (decimal z.0.count ++ z.1))) c.same

pub stat_spelled : (text : List ℕ) (stamp : Stamp) → stat_of text ≡ Some stamp → text ≡ stat_text stamp
unfolding stat_of
stat_spelled text stamp e =
    let a = then_some _ (option_and_then stamp_of (after_word (codes "stat 1 ") text)) stamp e in
    let b = then_some stamp_of (after_word (codes "stat 1 ") text) a.first a.is in
    let s = cond_some (is_end a.first.1) a.first.0 stamp a.next in
    word_spelled (codes "stat 1 ") text b.first b.is
    ∙ ap (λ t. codes "stat 1 " ++ t) (stamp_spelled b.first a.first b.next)
    ∙ ap (λ t. codes "stat 1 " ++ (decimal a.first.0.epoch ++ (codes " " ++ (decimal a.first.0.count ++ t)))) (end_spelled a.first.1 s.0)
    ∙ nested (codes "stat 1 ") (decimal a.first.0.epoch) (codes " ") (decimal a.first.0.count) (codes "\n")
    ∙ ap stat_text s.1

pub epoch_spelled : (text : List ℕ) (epoch : ℕ) → epoch_of text ≡ Some epoch → text ≡ epoch_text epoch
unfolding epoch_of
epoch_spelled text epoch e =
    let a = then_some _ (option_and_then leading_number (after_word (codes "epoch 1 ") text)) epoch e in
    let b = then_some leading_number (after_word (codes "epoch 1 ") text) a.first a.is in
    let s = cond_some (is_end a.first.1 && nat_lt 0 a.first.0) a.first.0 epoch a.next in
    word_spelled (codes "epoch 1 ") text b.first b.is
    ∙ ap (λ t. codes "epoch 1 " ++ t) (number_spelled b.first a.first b.next)
    ∙ ap (λ t. codes "epoch 1 " ++ (decimal a.first.0 ++ t)) (end_spelled a.first.1 (and_first (is_end a.first.1) (nat_lt 0 a.first.0) s.0))
    ∙ append_both (codes "epoch 1 ") (decimal a.first.0) (codes "\n")
    ∙ ap epoch_text s.1

-- ---- what a number fits

digits_most : (t : List ℕ) (m : ℕ) → m < 2 ^ 64 → (digits_from m t).0 < 2 ^ 64
unfolding digit_fits digits_from
digits_most [] m small = small
digits_most (b ∷ t) m small = ⊎_elim
    (λ (e : is_digit b && nat_le (m * 10 + (b - 48)) greatest_u64 ≡ true).
    let short : m * 10 + (b - 48) < 2 ^ 64 = grind (arith, nat_tests) in
    rw e (digits_most t (m * 10 + (b - 48)) short))
    (λ (e : is_digit b && nat_le (m * 10 + (b - 48)) greatest_u64 ≡ false). rw e small)
    (cases_Bool (is_digit b && nat_le (m * 10 + (b - 48)) greatest_u64))

number_most : (t : List ℕ) (p : ℕ × List ℕ) → leading_number t ≡ Some p → p.0 < 2 ^ 64
unfolding leading_number
number_most t p e = subst (λ (q : ℕ × List ℕ). q.0 < 2 ^ 64) (cond_some (begins_number t) (digits_from 0 t) p e).1 (digits_most t 0 (omega arith))

above_zero : (n : ℕ) → nat_lt 0 n ≡ true → 0 < n
above_zero n e = grind (arith, nat_tests)

pub epoch_most : (text : List ℕ) (epoch : ℕ) → epoch_of text ≡ Some epoch → (0 < epoch) × (epoch < 2 ^ 64)
unfolding epoch_of
epoch_most text epoch e =
    let a = then_some _ (option_and_then leading_number (after_word (codes "epoch 1 ") text)) epoch e in
    let b = then_some leading_number (after_word (codes "epoch 1 ") text) a.first a.is in
    let s = cond_some (is_end a.first.1 && nat_lt 0 a.first.0) a.first.0 epoch a.next in (
      subst (λ n. 0 < n) s.1 (above_zero a.first.0 (and_second (is_end a.first.1) (nat_lt 0 a.first.0) s.0)),
      subst (λ n. n < 2 ^ 64) s.1 (number_most b.first a.first b.next),
    )

-- ---- heads

kind_spelled : (text kind : List ℕ) → stored_kind text ≡ Some kind → text ≡ kind ++ codes "\n"
unfolding stored_kind
kind_spelled text kind e =
    let n = length text - 1 in
    let s = cond_some (is_end (drop n text) && is_kind (take n text)) (take n text) kind e in
    sym (take-append-drop n text)
    ∙ ap (λ (t : List ℕ). take n text ++ t) (end_spelled (drop n text) (and_first (is_end (drop n text)) (is_kind (take n text)) s.0))
    ∙ ap (λ (t : List ℕ). t ++ codes "\n") s.1

body_spelled : (stamp : Stamp) (text : List ℕ) (line : HeadLine) → body_of stamp text ≡ Some line
    → (text ≡ codes " " ++ (decimal line.size ++ (codes " " ++ (line.kind ++ codes "\n")))) × (stamp ≡ line.stamp)
unfolding body_of
body_spelled stamp text line e =
    let a = then_some _ (option_and_then leading_number (after_word (codes " ") text)) line e in
    let b = then_some leading_number (after_word (codes " ") text) a.first a.is in
    let c = map_some _ (option_and_then stored_kind (after_word (codes " ") a.first.1)) line a.next in
    let d = then_some stored_kind (after_word (codes " ") a.first.1) c.first c.is in (
      word_spelled (codes " ") text b.first b.is
          ∙ ap (λ t. codes " " ++ t) (number_spelled b.first a.first b.next)
          ∙ ap (λ t. codes " " ++ (decimal a.first.0 ++ t)) (word_spelled (codes " ") a.first.1 d.first d.is)
          ∙ ap (λ t. codes " " ++ (decimal a.first.0 ++ (codes " " ++ t))) (kind_spelled d.first c.first d.next)
          ∙ ap (λ (l : HeadLine). codes " " ++ (decimal l.size ++ (codes " " ++ (l.kind ++ codes "\n")))) c.same,
      ap (λ (l : HeadLine). l.stamp) c.same,
    )

nested_more : (a b c d e f g h i : List ℕ) → a ++ (b ++ (c ++ (d ++ (e ++ (f ++ (g ++ (h ++ i))))))) ≡ (((((((a ++ b) ++ c) ++ d) ++ e) ++ f) ++ g) ++ h) ++ i
nested_more a b c d e f g h i = nested a b c d (e ++ (f ++ (g ++ (h ++ i)))) ∙ nested (((a ++ b) ++ c) ++ d) e f g (h ++ i)
    ∙ append_both ((((((a ++ b) ++ c) ++ d) ++ e) ++ f) ++ g) h i

pub head_spelled : (text : List ℕ) (line : HeadLine) → head_of text ≡ Some line → text ≡ head_text line.stamp line.size line.kind
unfolding head_of
head_spelled text line e =
    let a = then_some _ (option_and_then stamp_of (after_word (codes "page 1 ") text)) line e in
    let b = then_some stamp_of (after_word (codes "page 1 ") text) a.first a.is in
    let body = body_spelled a.first.0 a.first.1 line a.next in
    let end : List ℕ = codes " " ++ (decimal line.size ++ (codes " " ++ (line.kind ++ codes "\n"))) in
    word_spelled (codes "page 1 ") text b.first b.is
    ∙ ap (λ t. codes "page 1 " ++ t) (stamp_spelled b.first a.first b.next)
    ∙ ap (λ t. codes "page 1 " ++ (decimal a.first.0.epoch ++ (codes " " ++ (decimal a.first.0.count ++ t)))) body.0
    ∙ ap (λ (s : Stamp). codes "page 1 " ++ (decimal s.epoch ++ (codes " " ++ (decimal s.count ++ end)))) body.1
    ∙ nested_more (codes "page 1 ") (decimal line.stamp.epoch) (codes " ") (decimal line.stamp.count) (codes " ") (decimal line.size) (codes " ") line.kind (codes "\n")
