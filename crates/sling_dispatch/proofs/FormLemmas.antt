-- Which words are of a form.
use Rattle.std.proofs.Common.{◌≡◌, ◌≢◌, ◌≤◌, ℕ, List, [], ◌∷◌, IsUtf8, codes, length, ap, subst}
use Rattle.std.specs.Fmt.{decimal}
use Rattle.sling_dispatch.specs.Forms.{AsksFor, HasForm, beginning_word, greatest_number, greatest_turns}
use Rattle.sling_dispatch.specs.declared.form.Beginning.{Beginning}
use Rattle.sling_dispatch.specs.declared.form.Form.{Form}
use Rattle.sling_dispatch.specs.declared.form.Form.TheVariants.{Replay, Scenario, Soak, Serve}

-- a single word is `replay`
pub one_word : (word : List ℕ) → word ≢ codes "replay" → HasForm (word ∷ []) → ⊥
one_word word other (f, a) = by_form f a
  where
    by_form : (f : Form) → AsksFor (word ∷ []) f → ⊥
    by_form Replay a = let e = a.words_are in other (cc e)
    by_form (Scenario n) a = let e = a.words_are in cc e
    by_form (Soak n) a = let e = a.words_are in cc e
    by_form (Serve s) a = let e = a.words_are in cc e

-- two words are `scenario` or `soak` and a number
pub two_words : (word spelled : List ℕ) → ((n : ℕ) → n ≤ greatest_number → spelled ≡ decimal n → ⊥) → HasForm (word ∷ spelled ∷ []) → ⊥
two_words word spelled none (f, a) = by_form f a
  where
    by_form : (f : Form) → AsksFor (word ∷ spelled ∷ []) f → ⊥
    by_form Replay a = let e = a.words_are in cc e
    by_form (Scenario n) a = let e = a.words_are in none n a.in_range (cc e)
    by_form (Soak n) a = let e = a.words_are in none n a.in_range (cc e)
    by_form (Serve s) a = let e = a.words_are in cc e

pub two_named : (word spelled : List ℕ) → word ≢ codes "scenario" → word ≢ codes "soak" → HasForm (word ∷ spelled ∷ []) → ⊥
two_named word spelled not also (f, a) = by_form f a
  where
    by_form : (f : Form) → AsksFor (word ∷ spelled ∷ []) f → ⊥
    by_form Replay a = let e = a.words_are in cc e
    by_form (Scenario n) a = let e = a.words_are in not (cc e)
    by_form (Soak n) a = let e = a.words_are in also (cc e)
    by_form (Serve s) a = let e = a.words_are in cc e

-- five words begin with `serve`
pub five_words : (word content any turns beginning : List ℕ) → word ≢ codes "serve" → HasForm (word ∷ content ∷ any ∷ turns ∷ beginning ∷ []) → ⊥
five_words word content any turns beginning other (f, a) = by_form f a
  where
    by_form : (f : Form) → AsksFor (word ∷ content ∷ any ∷ turns ∷ beginning ∷ []) f → ⊥
    by_form Replay a = let e = a.words_are in cc e
    by_form (Scenario n) a = let e = a.words_are in cc e
    by_form (Soak n) a = let e = a.words_are in cc e
    by_form (Serve s) a = let e = a.words_are in other (cc e)

-- What the words after `serve` are: two texts, a number of turns, and a beginning.
pub record Served (content any turns beginning : List ℕ) : Type 0 where
  pub content_is : IsUtf8 content
  pub any_is : IsUtf8 any
  pub count : ℕ
  pub least : 1 ≤ count
  pub most : count ≤ greatest_turns
  pub count_is : turns ≡ decimal count
  pub begins : Beginning
  pub begins_is : beginning ≡ beginning_word begins

pub words_served : (content any turns beginning : List ℕ) → HasForm (codes "serve" ∷ content ∷ any ∷ turns ∷ beginning ∷ []) → Served content any turns beginning
words_served content any turns beginning (f, a) = by_form f a
  where
    by_form : (f : Form) → AsksFor (codes "serve" ∷ content ∷ any ∷ turns ∷ beginning ∷ []) f → Served content any turns beginning
    by_form Replay a = let e = a.words_are in absurd (cc e)
    by_form (Scenario n) a = let e = a.words_are in absurd (cc e)
    by_form (Soak n) a = let e = a.words_are in absurd (cc e)
    by_form (Serve s) a =
        let e = a.words_are in
        let content_same : s.content ≡ content = cc e in
        let any_same : s.any ≡ any = cc e in
        let turns_same : turns ≡ decimal s.turns = cc e in
        let beginning_same : beginning ≡ beginning_word s.beginning = cc e in
        record {
          content_is = subst IsUtf8 content_same a.in_range.content;
          any_is = subst IsUtf8 any_same a.in_range.any;
          count = s.turns;
          least = a.in_range.least;
          most = a.in_range.most;
          count_is = turns_same;
          begins = s.beginning;
          begins_is = beginning_same;
        }

-- words of another number are of no form
pub other_count : (words : List (List ℕ)) → length words ≢ 1 → length words ≢ 2 → length words ≢ 5 → HasForm words → ⊥
other_count words one two five (f, a) = by_form f a
  where
    by_form : (f : Form) → AsksFor words f → ⊥
    by_form Replay a = one (ap length a.words_are)
    by_form (Scenario n) a = two (ap length a.words_are)
    by_form (Soak n) a = two (ap length a.words_are)
    by_form (Serve s) a = five (ap length a.words_are)
