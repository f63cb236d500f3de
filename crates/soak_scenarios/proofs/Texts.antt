-- Texts that are written to a draft one after another.
use Rattle.std.proofs.Common.{◌≡◌, ◌++◌, ◌∙◌, ap, append_assoc, ℕ, List}
use Rattle.soak_scenarios.specs.Drafts.{ScenarioDraft, with_text}

one_text : (a b : List ℕ) (d : ScenarioDraft) → with_text b (with_text a d) ≡ with_text (a ++ b) d
one_text a b d = ap (λ t. record d { text = t }) (append_assoc d.text a b)

-- a draft after two texts, by the draft between them
pub two_texts : (a b : List ℕ) (d e f : ScenarioDraft) → e ≡ with_text a d → f ≡ with_text b e → f ≡ with_text (a ++ b) d
two_texts a b d e f p q = q ∙ ap (with_text b) p ∙ one_text a b d

pub three_texts : (a b c : List ℕ) (d e f g : ScenarioDraft) → e ≡ with_text a d → f ≡ with_text b e → g ≡ with_text c f → g ≡ with_text (a ++ (b ++ c)) d
three_texts a b c d e f g p q r = two_texts a (b ++ c) d e g p (two_texts b c e f g q r)

-- a draft whose text alone has grown
pub grown : (more : List ℕ) (d e : ScenarioDraft) → e.text ≡ d.text ++ more → e.seed ≡ d.seed → e ≡ with_text more d
grown more d e p q = λ i. record { text = p i; seed = q i }

pub four_texts : (a b c x : List ℕ) (d e f g h : ScenarioDraft) → e ≡ with_text a d → f ≡ with_text b e → g ≡ with_text c f → h ≡ with_text x g → h ≡ with_text (a ++ (b ++ (c ++ x))) d
four_texts a b c x d e f g h p q r s = two_texts a (b ++ (c ++ x)) d e h p (three_texts b c x e f g h q r s)

pub five_texts : (a b c x y : List ℕ) (d e f g h i : ScenarioDraft) → e ≡ with_text a d → f ≡ with_text b e → g ≡ with_text c f → h ≡ with_text x g → i ≡ with_text y h
    → i ≡ with_text (a ++ (b ++ (c ++ (x ++ y)))) d
five_texts a b c x y d e f g h i p q r s t = two_texts a (b ++ (c ++ (x ++ y))) d e i p (four_texts b c x y e f g h i q r s t)

pub six_texts : (a b c x y z : List ℕ) (d e f g h i j : ScenarioDraft) → e ≡ with_text a d → f ≡ with_text b e → g ≡ with_text c f → h ≡ with_text x g → i ≡ with_text y h → j ≡ with_text z i
    → j ≡ with_text (a ++ (b ++ (c ++ (x ++ (y ++ z))))) d
six_texts a b c x y z d e f g h i j p q r s t u = two_texts a (b ++ (c ++ (x ++ (y ++ z)))) d e j p (five_texts b c x y z e f g h i j q r s t u)
