-- What is in the grammar is read.
use Rattle.std.proofs.Common.{◌≡◌, ℕ, ℤ, zero, suc, ◌<◌, ◌≤◌, Bool, true, false, eqb, List, [], ◌∷◌, ◌++◌, length, Ok, refl, ap, ◌∙◌, rules, arith, append_assoc}
use Rattle.std.proofs.lemmas.Bool.{eqb-true}
use Rattle.std.proofs.lemmas.List.{append-nil}
use Rattle.sp_base.specs.Bytes.{begins_with_byte, is_digit}
use Rattle.htl_syntax.specs.declared.node.ExprNode.{ExprNode}
use Rattle.htl_syntax.specs.declared.node.ExprNode.TheVariants as expr_node
use Rattle.htl_syntax.specs.declared.node.Comparison.{Comparison}
use Rattle.htl_syntax.specs.declared.tokens.NameKind.TheVariants.{Name, Field}
use Rattle.htl_syntax.specs.declared.reader.Nested.{Nested}
use Rattle.htl_syntax.specs.declared.reader.Nested.TheVariants as nested
use Rattle.htl_syntax.specs.Tokens.{Outcome, done, begins, is_first, is_quote}
use Rattle.htl_syntax.specs.Read as spec
use Rattle.htl_syntax.specs.Grammar.{Byte, NameToken, String, Number, Sign, Compares, Separator, And, Or, Comma, Separates, GrammarPart, part_of, Choice, Either, Both, Compare, Operand, Atom, Start, Items, Reads, More, Access, Accesses}
use Rattle.htl_syntax.specs.Grammar as g
use Rattle.htl_syntax.proofs.Sound.{byte_of}
use Rattle.htl_syntax.proofs.TokensAgain as again

abbrev NoAccess : List ℕ → Type 0
NoAccess r = spec.access_at r ≡ false

-- the text does not go on with a token that would make the part longer
abbrev pub Stops : GrammarPart → List ℕ → Type 0
Stops Start r = Unit {0}
Stops Atom r = NoAccess r
Stops Operand r = NoAccess r
Stops Compare r = NoAccess r × (spec.compares r ≡ false)
Stops Both r = NoAccess r × (spec.compares r ≡ false) × (begins_with_byte 38 r ≡ false)
Stops Either r = NoAccess r × (spec.compares r ≡ false) × (begins_with_byte 38 r ≡ false) × (begins_with_byte 124 r ≡ false)
Stops Choice r = NoAccess r × (spec.compares r ≡ false) × (begins_with_byte 38 r ≡ false) × (begins_with_byte 124 r ≡ false) × (begins_with_byte 63 r ≡ false)
Stops Items r = begins_with_byte 93 r ≡ true

-- ---- what was read is taken off

pub access-short : (depth : ℕ) (s f r : List ℕ) → Access depth s f r → length r < length s
access-short _ _ _ _ (g.field b f) = omega (arith, again.byte-short _ _ _ b, again.name-short _ _ _ _ f)
access-short _ _ _ _ (g.bracket b w c) = omega (arith, again.byte-short _ _ _ b, again.string-short _ _ _ w, again.byte-short _ _ _ c)

accesses-short : (depth : ℕ) (s : List ℕ) (fs : List (List ℕ)) (r : List ℕ) → Accesses depth s fs r → length r ≤ length s
accesses-short _ _ _ _ g.none = omega arith
accesses-short _ _ _ _ (g.more a o) = omega (arith, access-short _ _ _ _ a, accesses-short _ _ _ _ o)

pub separates-short : (sep : Separator) (s r : List ℕ) → Separates sep s r → length r < length s
separates-short And s r o = again.operator-short 38 38 s r o
separates-short Or s r o = again.operator-short 124 124 s r o
separates-short Comma s r o = again.byte-short 44 s r o

mutual
  pub reads-short : (part : GrammarPart) (depth : ℕ) (s : List ℕ) (e : ExprNode) (r : List ℕ) → Reads part depth s e r → length r ≤ length s
  reads-short _ _ _ _ _ (g.string w) = again.string-short _ _ _ w
  reads-short _ _ _ _ _ (g.number w) = again.number-short _ _ _ w
  reads-short _ _ _ _ _ (g.name w o) = again.name-short _ _ _ _ w
  reads-short _ _ _ _ _ (g.object w o a) = omega (arith, again.name-short _ _ _ _ w, access-short _ _ _ _ a)
  reads-short _ _ _ _ _ (g.inside b x c) = omega (arith, again.byte-short _ _ _ b, reads-short _ _ _ _ _ x, again.byte-short _ _ _ c)
  reads-short _ _ _ _ _ (g.list b x c) = omega (arith, again.byte-short _ _ _ b, reads-short _ _ _ _ _ x, again.byte-short _ _ _ c)
  reads-short _ _ _ _ _ g.no_items = omega arith
  reads-short _ _ _ _ _ (g.items x m) = omega (arith, reads-short _ _ _ _ _ x, more-short _ _ _ _ _ m)
  reads-short _ _ _ _ _ (g.atom x fs) = omega (arith, reads-short _ _ _ _ _ x, accesses-short _ _ _ _ fs)
  reads-short _ _ _ _ _ (g.not b x) = omega (arith, again.byte-short _ _ _ b, reads-short _ _ _ _ _ x)
  reads-short _ _ _ _ _ (g.bare x) = reads-short _ _ _ _ _ x
  reads-short _ _ _ _ _ (g.compare x o y) = omega (arith, reads-short _ _ _ _ _ x, again.compares-short _ _ _ o, reads-short _ _ _ _ _ y)
  reads-short _ _ _ _ _ (g.single x) = reads-short _ _ _ _ _ x
  reads-short _ _ _ _ _ (g.both x m) = omega (arith, reads-short _ _ _ _ _ x, more-short _ _ _ _ _ m)
  reads-short _ _ _ _ _ (g.either x m) = omega (arith, reads-short _ _ _ _ _ x, more-short _ _ _ _ _ m)
  reads-short _ _ _ _ _ (g.choice x b y c z) = omega (arith, reads-short _ _ _ _ _ x, again.byte-short _ _ _ b, reads-short _ _ _ _ _ y, again.byte-short _ _ _ c, reads-short _ _ _ _ _ z)
  reads-short _ _ _ _ _ (g.only x) = reads-short _ _ _ _ _ x

  more-short : (sep : Separator) (depth : ℕ) (s : List ℕ) (es : List ExprNode) (r : List ℕ) → More sep depth s es r → length r ≤ length s
  more-short _ _ _ _ _ g.end = omega arith
  more-short _ _ _ _ _ (g.more o x m) = omega (arith, separates-short _ _ _ o, reads-short _ _ _ _ _ x, more-short _ _ _ _ _ m)

-- ---- what stands after an item of a chain

more_stops : (P : List ℕ → Type 0) (sep : Separator) (depth : ℕ) (s : List ℕ) (es : List ExprNode) (r : List ℕ) → ((s' r' : List ℕ) → Separates sep s' r' → P s') → P r → More sep depth s es r → P s
more_stops P sep depth s _ _ op last g.end = last
more_stops P sep depth s _ _ op last (g.more o x m) = op s _ o

-- ---- each part, where its own parts are read

leaf_start : (depth : ℕ) (inner : Nested → List ℕ → Outcome ExprNode) (s : List ℕ) → begins_with_byte 40 s ≡ false → begins_with_byte 91 s ≡ false → spec.start depth inner s ≡ spec.primary depth s
unfolding spec.start
leaf_start depth inner s a b = rw (a, b) refl

string_leaf : (depth : ℕ) (s w r : List ℕ) → String s w r → spec.primary depth s ≡ Ok (expr_node.Text w, r)
unfolding spec.primary
string_leaf depth s w r x = rw (again.string_begins s w r x, again.string_again s w r x) refl

number_leaf : (depth : ℕ) (s : List ℕ) (k : ℤ) (r : List ℕ) → Number s k r → spec.primary depth s ≡ Ok (expr_node.Long k, r)
unfolding spec.primary
number_leaf depth s k r x = rw (again.number_starts is_quote s k r refl again.digit_quote x, again.number_begins s k r x, again.number_again s k r x) refl

named_leaf : (depth : ℕ) (s w r : List ℕ) → NameToken Name s w r → spec.primary depth s ≡ spec.name_or_object_of depth (spec.object_of w) w r
unfolding spec.primary spec.name_or_object
named_leaf depth s w r x =
    rw (again.begins_other is_first is_quote s again.first_quote x.first, again.not_at is_first 45 s x.first refl, again.begins_other is_first is_digit s again.digit_first x.first, again.name_again Name s w r x) refl

-- ---- a part doesn't begin with a byte that begins no token of it

sign_not_at : (d : ℕ) (s : List ℕ) (negative : Bool) (t : List ℕ) → eqb 45 d ≡ false → is_digit d ≡ false → Sign negative s t → begins is_digit t ≡ true → begins_with_byte d s ≡ false
unfolding begins_with_byte
sign_not_at d s true t a b e h = rw e a
sign_not_at d s false t a b e h = rw e (again.not_at is_digit d t h b)

number_not_at : (d : ℕ) (s : List ℕ) (k : ℤ) (r : List ℕ) → eqb 45 d ≡ false → is_digit d ≡ false → Number s k r → begins_with_byte d s ≡ false
number_not_at d s k r a b x = sign_not_at d s x.negative x.inside a b x.sign x.first

byte_not_at : (c d : ℕ) (s r : List ℕ) → eqb c d ≡ false → Byte c s r → begins_with_byte d s ≡ false
unfolding begins_with_byte
byte_not_at c d s r a b = rw b.parts a

pub record Strange (d : ℕ) : Type 0 where
  pub quote : is_quote d ≡ false
  pub minus : eqb 45 d ≡ false
  pub digit : is_digit d ≡ false
  pub first : is_first d ≡ false
  pub round : eqb 40 d ≡ false
  pub square : eqb 91 d ≡ false

start_at : (d : ℕ) (part : GrammarPart) (depth : ℕ) (s : List ℕ) (e : ExprNode) (r : List ℕ) → Strange d → part ≡ Start → Reads part depth s e r → begins_with_byte d s ≡ false
start_at d _ _ s _ _ x eq (g.string w) = again.not_at is_quote d s (again.string_begins _ _ _ w) x.quote
start_at d _ _ s _ _ x eq (g.number w) = number_not_at d s _ _ x.minus x.digit w
start_at d _ _ s _ _ x eq (g.name w o) = again.not_at is_first d s w.first x.first
start_at d _ _ s _ _ x eq (g.object w o a) = again.not_at is_first d s w.first x.first
start_at d _ _ s _ _ x eq (g.inside b y c) = byte_not_at 40 d s _ x.round b
start_at d _ _ s _ _ x eq (g.list b y c) = byte_not_at 91 d s _ x.square b
start_at d _ _ s _ _ x eq g.no_items = absurd cc
start_at d _ _ s _ _ x eq (g.items y m) = absurd cc
start_at d _ _ s _ _ x eq (g.atom y fs) = absurd cc
start_at d _ _ s _ _ x eq (g.not b y) = absurd cc
start_at d _ _ s _ _ x eq (g.bare y) = absurd cc
start_at d _ _ s _ _ x eq (g.compare y o z) = absurd cc
start_at d _ _ s _ _ x eq (g.single y) = absurd cc
start_at d _ _ s _ _ x eq (g.both y m) = absurd cc
start_at d _ _ s _ _ x eq (g.either y m) = absurd cc
start_at d _ _ s _ _ x eq (g.choice y b z c v) = absurd cc
start_at d _ _ s _ _ x eq (g.only y) = absurd cc

strange_not : Strange 33
strange_not = record { quote = refl; minus = refl; digit = refl; first = refl; round = refl; square = refl }

strange_close : Strange 93
strange_close = record { quote = refl; minus = refl; digit = refl; first = refl; round = refl; square = refl }

atom_at : (depth : ℕ) (s : List ℕ) (e : ExprNode) (r : List ℕ) → Reads Atom depth s e r → begins_with_byte 33 s ≡ false
atom_at depth s _ r (g.atom x fs) = start_at 33 _ _ _ _ _ strange_not refl x

abbrev pub NotItems : GrammarPart → Type 0
NotItems Items = ⊥
NotItems _ = Unit {0}

pub record Foreign (d : ℕ) : Type 0 where
  pub strange : Strange d
  pub mark : eqb 33 d ≡ false

pub foreign_close : Foreign 93
foreign_close = record { strange = strange_close; mark = refl }

pub foreign_options : Foreign 64
foreign_options = record { strange = record { quote = refl; minus = refl; digit = refl; first = refl; round = refl; square = refl }; mark = refl }

pub part_at : (d : ℕ) (part : GrammarPart) (depth : ℕ) (s : List ℕ) (e : ExprNode) (r : List ℕ) → Foreign d → Reads part depth s e r → NotItems part → begins_with_byte d s ≡ false
part_at d _ depth s _ r x (g.string w) ni = start_at d Start depth s _ r x.strange refl (g.string w)
part_at d _ depth s _ r x (g.number w) ni = start_at d Start depth s _ r x.strange refl (g.number w)
part_at d _ depth s _ r x (g.name w o) ni = start_at d Start depth s _ r x.strange refl (g.name w o)
part_at d _ depth s _ r x (g.object w o a) ni = start_at d Start depth s _ r x.strange refl (g.object w o a)
part_at d _ depth s _ r x (g.inside b y c) ni = byte_not_at 40 d s _ x.strange.round b
part_at d _ depth s _ r x (g.list b y c) ni = byte_not_at 91 d s _ x.strange.square b
part_at d _ depth s _ r x g.no_items ni = absurd ni
part_at d _ depth s _ r x (g.items y m) ni = absurd ni
part_at d _ depth s _ r x (g.atom y fs) ni = part_at d _ _ s _ _ x y tt
part_at d _ depth s _ r x (g.not b y) ni = byte_not_at 33 d s _ x.mark b
part_at d _ depth s _ r x (g.bare y) ni = part_at d _ _ s _ _ x y tt
part_at d _ depth s _ r x (g.compare y o z) ni = part_at d _ _ s _ _ x y tt
part_at d _ depth s _ r x (g.single y) ni = part_at d _ _ s _ _ x y tt
part_at d _ depth s _ r x (g.both y m) ni = part_at d _ _ s _ _ x y tt
part_at d _ depth s _ r x (g.either y m) ni = part_at d _ _ s _ _ x y tt
part_at d _ depth s _ r x (g.choice y b z c v) ni = part_at d _ _ s _ _ x y tt
part_at d _ depth s _ r x (g.only y) ni = part_at d _ _ s _ _ x y tt

begins_some : (test : ℕ → Bool) (s : List ℕ) → begins test s ≡ true → eqb (length s) 0 ≡ false
unfolding begins
begins_some test [] h = absurd cc
begins_some test (c ∷ s) h = search rules

first_passes : (c : ℕ) (s : List ℕ) → begins (λ d. true) (c ∷ s) ≡ true
unfolding begins
first_passes c s = refl

sign_some : (s : List ℕ) (negative : Bool) (t : List ℕ) → Sign negative s t → begins is_digit t ≡ true → eqb (length s) 0 ≡ false
sign_some s true t e h = rw e (begins_some (λ c. true) (45 ∷ t) (first_passes 45 t))
sign_some s false t e h = rw e (begins_some is_digit t h)

byte_some : (c : ℕ) (s r : List ℕ) → Byte c s r → eqb (length s) 0 ≡ false
byte_some c s r b = rw b.parts (begins_some (λ c. true) (c ∷ b.after) (first_passes c b.after))

-- a part that is no list of items has a first byte
pub part_some : (part : GrammarPart) (depth : ℕ) (s : List ℕ) (e : ExprNode) (r : List ℕ) → Reads part depth s e r → NotItems part → eqb (length s) 0 ≡ false
part_some _ depth s _ r (g.string w) ni = begins_some is_quote s (again.string_begins _ _ _ w)
part_some _ depth s _ r (g.number w) ni = sign_some s w.negative w.inside w.sign w.first
part_some _ depth s _ r (g.name w o) ni = begins_some is_first s w.first
part_some _ depth s _ r (g.object w o a) ni = begins_some is_first s w.first
part_some _ depth s _ r (g.inside b y c) ni = byte_some 40 s _ b
part_some _ depth s _ r (g.list b y c) ni = byte_some 91 s _ b
part_some _ depth s _ r g.no_items ni = absurd ni
part_some _ depth s _ r (g.items y m) ni = absurd ni
part_some _ depth s _ r (g.atom y fs) ni = part_some _ _ s _ _ y tt
part_some _ depth s _ r (g.not b y) ni = byte_some 33 s _ b
part_some _ depth s _ r (g.bare y) ni = part_some _ _ s _ _ y tt
part_some _ depth s _ r (g.compare y o z) ni = part_some _ _ s _ _ y tt
part_some _ depth s _ r (g.single y) ni = part_some _ _ s _ _ y tt
part_some _ depth s _ r (g.both y m) ni = part_some _ _ s _ _ y tt
part_some _ depth s _ r (g.either y m) ni = part_some _ _ s _ _ y tt
part_some _ depth s _ r (g.choice y b z c v) ni = part_some _ _ s _ _ y tt
part_some _ depth s _ r (g.only y) ni = part_some _ _ s _ _ y tt

-- ---- accesses

access_stop : (depth k : ℕ) (found : List (List ℕ)) (s : List ℕ) → spec.access_at s ≡ false → spec.accesses depth k found s ≡ Ok (found ++ [], s)
unfolding spec.accesses
access_stop depth zero found s at = rw append-nil refl
access_stop depth (suc k) found s at = rw (at, append-nil) refl

access_turn : (depth k : ℕ) (found : List (List ℕ)) (s f r2 r : List ℕ) (fs : List (List ℕ)) → spec.access_at s ≡ true → spec.access depth s ≡ Ok (f, r2)
    → spec.accesses depth k (found ++ f ∷ []) r2 ≡ Ok ((found ++ f ∷ []) ++ fs, r) → spec.accesses depth (suc k) found s ≡ Ok (found ++ (f ∷ fs), r)
unfolding spec.accesses
access_turn depth k found s f r2 r fs at x y = rw (at, x) (y ∙ ap (λ (l : List (List ℕ)). done (l, r)) (append_assoc found (f ∷ []) fs))

no_dot : (s r1 : List ℕ) → Byte 91 s r1 → begins_with_byte 46 s ≡ false
unfolding begins_with_byte
no_dot s r1 b = rw b.parts refl

access_begins : (depth : ℕ) (s f r : List ℕ) → Access depth s f r → spec.access_at s ≡ true
unfolding spec.access_at
access_begins _ s f r (g.field b x) = rw (again.at_here 46 s _ b) refl
access_begins _ s f r (g.bracket b w c) = rw (no_dot s _ b, again.at_here 91 s _ b) refl

access_again : (depth : ℕ) (s f r : List ℕ) → Access depth s f r → spec.access depth s ≡ Ok (f, r)
unfolding spec.access spec.bracket_access
access_again _ s f r (g.field b x) = rw (again.at_here 46 s _ b, again.remainder 46 s _ b) (again.name_again Field _ f r x)
access_again _ s f r (g.bracket {depth = d} b w c) =
    let deep : eqb (suc d) 0 ≡ false = search rules in
    rw (no_dot s _ b, deep, again.remainder 91 s _ b, again.string_again _ f _ w, again.expect_again 93 _ r c) refl

first_again : (depth : ℕ) (s f r : List ℕ) → Access depth s f r → spec.first_access depth s ≡ Ok (f, r)
unfolding spec.first_access
first_again depth s f r a = rw (access_begins depth s f r a) (access_again depth s f r a)

accesses_again : (depth k : ℕ) (found : List (List ℕ)) (s : List ℕ) (fs : List (List ℕ)) (r : List ℕ) → Accesses depth s fs r → NoAccess r → length s ≤ k → spec.accesses depth k found s ≡ Ok (found ++ fs, r)
accesses_again depth k found s _ _ g.none st le = access_stop depth k found s st
accesses_again depth zero found s _ r (g.more a o) st le = absurd (omega (arith, access-short _ _ _ _ a))
accesses_again depth (suc k) found s _ r (g.more a o) st le =
    access_turn depth k found s _ _ r _ (access_begins depth s _ _ a) (access_again depth s _ _ a)
    (accesses_again depth k (found ++ _ ∷ []) _ _ r o st (omega (arith, access-short _ _ _ _ a)))

module _ (depth : ℕ) (inner : Nested → List ℕ → Outcome ExprNode) where
  inside_start : (s r1 r2 r : List ℕ) (e : ExprNode) → Byte 40 s r1 → inner nested.Choice s ≡ Ok (e, r2) → Byte 41 r2 r → spec.start depth inner s ≡ Ok (e, r)
  unfolding spec.start
  inside_start s r1 r2 r e b x close = rw (again.at_here 40 s r1 b, x, again.expect_again 41 r2 r close) refl

  list_start : (s r1 r2 r : List ℕ) (e : ExprNode) → Byte 91 s r1 → inner nested.Items s ≡ Ok (e, r2) → Byte 93 r2 r → spec.start depth inner s ≡ Ok (e, r)
  unfolding spec.start
  list_start s r1 r2 r e b x close = rw (byte_not_at 91 40 s r1 refl b, again.at_here 91 s r1 b, x, again.expect_again 93 r2 r close) refl

  atom_again : (s r1 r : List ℕ) (e : ExprNode) (fs : List (List ℕ)) → spec.start depth inner s ≡ Ok (e, r1) → spec.accesses depth (length r1) [] r1 ≡ Ok (fs, r) → spec.atom depth inner s ≡ Ok (spec.access_of e fs, r)
  unfolding spec.atom
  atom_again s r1 r e fs x y = rw (x, y) refl

  not_again : (s r1 r : List ℕ) (e : ExprNode) → Byte 33 s r1 → inner nested.Operand s ≡ Ok (e, r) → spec.operand depth inner s ≡ Ok (expr_node.Not e, r)
  unfolding spec.operand
  not_again s r1 r e b x = rw (again.at_here 33 s r1 b, x) refl

  bare_again : (s r : List ℕ) (e : ExprNode) → begins_with_byte 33 s ≡ false → spec.atom depth inner s ≡ Ok (e, r) → spec.operand depth inner s ≡ Ok (e, r)
  unfolding spec.operand
  bare_again s r e at x = rw at x

  compare_again : (s r1 r2 r : List ℕ) (a b : ExprNode) (op : Comparison) → spec.operand depth inner s ≡ Ok (a, r1) → Compares r1 op r2 → spec.operand depth inner r2 ≡ Ok (b, r) → spec.compare depth inner s ≡ Ok (expr_node.Compare op a b, r)
  unfolding spec.compare
  compare_again s r1 r2 r a b op x o y = rw (x, again.compares_again r1 op r2 o, again.comparison_again r1 op r2 o, y) refl

  single_again : (s r : List ℕ) (e : ExprNode) → spec.operand depth inner s ≡ Ok (e, r) → spec.compares r ≡ false → spec.compare depth inner s ≡ Ok (e, r)
  unfolding spec.compare
  single_again s r e x at = rw (x, at) refl

  both_again : (s r1 r : List ℕ) (e : ExprNode) (es : List ExprNode) → spec.compare depth inner s ≡ Ok (e, r1) → spec.chain (spec.compare depth inner) 38 (length r1) [] r1 ≡ Ok (es, r) → spec.both depth inner s ≡ Ok (spec.and_of e es, r)
  unfolding spec.both
  both_again s r1 r e es x y = rw (x, y) refl

  either_again : (s r1 r : List ℕ) (e : ExprNode) (es : List ExprNode) → spec.both depth inner s ≡ Ok (e, r1) → spec.chain (spec.both depth inner) 124 (length r1) [] r1 ≡ Ok (es, r) → spec.either depth inner s ≡ Ok (spec.or_of e es, r)
  unfolding spec.either
  either_again s r1 r e es x y = rw (x, y) refl

  choice_again : (s r1 r2 r3 r4 r : List ℕ) (c a b : ExprNode) → spec.either depth inner s ≡ Ok (c, r1) → Byte 63 r1 r2 → inner nested.Choice r1 ≡ Ok (a, r3) → Byte 58 r3 r4 → inner nested.Choice r3 ≡ Ok (b, r)
      → spec.choice depth inner s ≡ Ok (expr_node.Choice c a b, r)
  unfolding spec.choice spec.other_choice
  choice_again s r1 r2 r3 r4 r c a b x q y colon z = rw (x, again.at_here 63 r1 r2 q, y, again.at_here 58 r3 r4 colon, z) refl

  only_again : (s r : List ℕ) (e : ExprNode) → spec.either depth inner s ≡ Ok (e, r) → begins_with_byte 63 r ≡ false → spec.choice depth inner s ≡ Ok (e, r)
  unfolding spec.choice
  only_again s r e x at = rw (x, at) refl

  no_items_again : (s : List ℕ) → begins_with_byte 93 s ≡ true → spec.items depth inner s ≡ Ok (expr_node.List [], s)
  unfolding spec.items
  no_items_again s at = rw at refl

  items_again : (s r1 r : List ℕ) (e : ExprNode) (es : List ExprNode) → begins_with_byte 93 s ≡ false → spec.choice depth inner s ≡ Ok (e, r1) → spec.chain (spec.choice depth inner) 44 (length r1) (e ∷ []) r1 ≡ Ok ((e ∷ []) ++ es, r)
      → spec.items depth inner s ≡ Ok (expr_node.List (e ∷ es), r)
  unfolding spec.items
  items_again s r1 r e es at x y = rw (at, x, y) refl

nested_again : (depth : ℕ) (which : Nested) (c : ℕ) (s r1 r : List ℕ) (e : ExprNode) → Byte c s r1 → spec.level depth (spec.nesting depth) which r1 ≡ Ok (e, r) → spec.nesting (suc depth) which s ≡ Ok (e, r)
unfolding spec.nesting
nested_again depth which c s r1 r e b x = rw (again.remainder c s r1 b) x

-- ---- chains

separator_here : (sep : Separator) (s r : List ℕ) → Separates sep s r → begins_with_byte (byte_of sep) s ≡ true
separator_here And s r o = again.operator_here 38 38 s r o
separator_here Or s r o = again.operator_here 124 124 s r o
separator_here Comma s r o = again.at_here 44 s r o

between_again : (sep : Separator) (s r : List ℕ) → Separates sep s r → spec.between (byte_of sep) s ≡ Ok r
between_again And s r o = again.second_again 38 38 s r o
between_again Or s r o = again.second_again 124 124 s r o
between_again Comma s r o = again.expect_again 44 s r o

chain_stop : (item : List ℕ → Outcome ExprNode) (c k : ℕ) (found : List ExprNode) (s : List ℕ) → begins_with_byte c s ≡ false → spec.chain item c k found s ≡ Ok (found ++ [], s)
unfolding spec.chain
chain_stop item c zero found s at = rw append-nil refl
chain_stop item c (suc k) found s at = rw (at, append-nil) refl

chain_turn : (sep : Separator) (item : List ℕ → Outcome ExprNode) (k : ℕ) (found : List ExprNode) (s r1 r2 r : List ℕ) (e : ExprNode) (es : List ExprNode) → Separates sep s r1 → item r1 ≡ Ok (e, r2)
    → spec.chain item (byte_of sep) k (found ++ e ∷ []) r2 ≡ Ok ((found ++ e ∷ []) ++ es, r) → spec.chain item (byte_of sep) (suc k) found s ≡ Ok (found ++ (e ∷ es), r)
unfolding spec.chain
chain_turn sep item k found s r1 r2 r e es o x y =
    rw (separator_here sep s r1 o, between_again sep s r1 o, x) (y ∙ ap (λ (l : List ExprNode). done (l, r)) (append_assoc found (e ∷ []) es))

-- ---- the whole

-- the function that reads a part
abbrev pub parse : GrammarPart → ℕ → List ℕ → Outcome ExprNode
parse Choice depth = spec.choice depth (spec.nesting depth)
parse Either depth = spec.either depth (spec.nesting depth)
parse Both depth = spec.both depth (spec.nesting depth)
parse Compare depth = spec.compare depth (spec.nesting depth)
parse Operand depth = spec.operand depth (spec.nesting depth)
parse Atom depth = spec.atom depth (spec.nesting depth)
parse Start depth = spec.start depth (spec.nesting depth)
parse Items depth = spec.items depth (spec.nesting depth)

-- what stands after the parts of a line
compares_operand : (s : List ℕ) (op : Comparison) (r : List ℕ) → Compares s op r → Stops Operand s
unfolding begins_with_byte spec.access_at
compares_operand s _ r (g.equal o) = rw o.parts refl
compares_operand s _ r (g.not_equal o) = rw o.parts refl
compares_operand s _ r (g.at_most o) = rw o.parts refl
compares_operand s _ r (g.at_least o) = rw o.parts refl
compares_operand s _ r (g.below o) = rw o.parts refl
compares_operand s _ r (g.above o) = rw o.parts refl

question_either : (s r : List ℕ) → Byte 63 s r → Stops Either s
unfolding begins_with_byte spec.access_at spec.compares
question_either s r b = rw b.parts (refl, refl, refl, refl)

colon_choice : (s r : List ℕ) → Byte 58 s r → Stops Choice s
unfolding begins_with_byte spec.access_at spec.compares
colon_choice s r b = rw b.parts (refl, refl, refl, refl, refl)

close_choice : (s r : List ℕ) → Byte 41 s r → Stops Choice s
unfolding begins_with_byte spec.access_at spec.compares
close_choice s r b = rw b.parts (refl, refl, refl, refl, refl)

end_choice : (s : List ℕ) → begins_with_byte 93 s ≡ true → Stops Choice s
unfolding begins_with_byte spec.access_at spec.compares
end_choice [] h = absurd cc
end_choice (c ∷ s) h = let e : c ≡ 93 = eqb-true c 93 h in rw e (refl, refl, refl, refl, refl)

comma_choice : (s r : List ℕ) → Separates Comma s r → Stops Choice s
unfolding begins_with_byte spec.access_at spec.compares
comma_choice s r b = rw b.parts (refl, refl, refl, refl, refl)

and_compare : (s r : List ℕ) → Separates And s r → Stops Compare s
unfolding begins_with_byte spec.access_at spec.compares
and_compare s r o = rw o.parts (refl, refl)

or_both : (s r : List ℕ) → Separates Or s r → Stops Both s
unfolding begins_with_byte spec.access_at spec.compares
or_both s r o = rw o.parts (refl, refl, refl)

no_comma : (s : List ℕ) → begins_with_byte 93 s ≡ true → begins_with_byte 44 s ≡ false
unfolding begins_with_byte
no_comma [] h = absurd cc
no_comma (c ∷ s) h = let e : c ≡ 93 = eqb-true c 93 h in rw e refl

-- what stands after the items of a chain
abbrev After : Separator → List ℕ → Type 0
After And r = Stops Compare r × (begins_with_byte 38 r ≡ false)
After Or r = Stops Both r × (begins_with_byte 124 r ≡ false)
After Comma r = Stops Choice r × (begins_with_byte 44 r ≡ false)

after_stops : (sep : Separator) (r : List ℕ) → After sep r → Stops (part_of sep) r
after_stops And r b = b.0
after_stops Or r b = b.0
after_stops Comma r b = b.0

separates_stops : (sep : Separator) (s r : List ℕ) → Separates sep s r → Stops (part_of sep) s
separates_stops And = and_compare
separates_stops Or = or_both
separates_stops Comma = comma_choice

next_stops : (sep : Separator) (depth : ℕ) (s : List ℕ) (es : List ExprNode) (r : List ℕ) → After sep r → More sep depth s es r → Stops (part_of sep) s
next_stops sep depth s es r b m = more_stops (Stops (part_of sep)) sep depth s es r (separates_stops sep) (after_stops sep r b) m

mutual
  pub complete : (part : GrammarPart) (depth : ℕ) (s : List ℕ) (e : ExprNode) (r : List ℕ) → Reads part depth s e r → Stops part r → parse part depth s ≡ Ok (e, r)
  complete _ depth s _ r (g.string w) st =
      leaf_start depth (spec.nesting depth) s (again.not_at is_quote 40 s (again.string_begins _ _ _ w) refl) (again.not_at is_quote 91 s (again.string_begins _ _ _ w) refl) ∙ string_leaf depth s _ r w
  complete _ depth s _ r (g.number w) st =
      leaf_start depth (spec.nesting depth) s (number_not_at 40 s _ r refl refl w) (number_not_at 91 s _ r refl refl w) ∙ number_leaf depth s _ r w
  complete _ depth s _ r (g.name w o) st =
      leaf_start depth (spec.nesting depth) s (again.not_at is_first 40 s w.first refl) (again.not_at is_first 91 s w.first refl) ∙ named_leaf depth s _ r w ∙ rw o refl
  complete _ depth s _ r (g.object w o a) st =
      leaf_start depth (spec.nesting depth) s (again.not_at is_first 40 s w.first refl) (again.not_at is_first 91 s w.first refl) ∙ named_leaf depth s _ _ w ∙ rw (o, first_again depth _ _ r a) refl
  complete _ _ s e r (g.inside {depth = d} b x c) st =
      inside_start (suc d) (spec.nesting (suc d)) s _ _ r e b (nested_again d nested.Choice 40 s _ _ e b (complete _ d _ e _ x (close_choice _ r c))) c
  complete _ _ s e r (g.list {depth = d} b x c) st =
      list_start (suc d) (spec.nesting (suc d)) s _ _ r e b (nested_again d nested.Items 91 s _ _ e b (complete _ d _ e _ x (again.at_here 93 _ r c))) c
  complete _ depth s _ _ g.no_items st = no_items_again depth (spec.nesting depth) s st
  complete _ depth s _ r (g.items x m) st =
      items_again depth (spec.nesting depth) s _ r _ _ (part_at 93 Choice depth s _ _ foreign_close x tt) (complete Choice depth s _ _ x (next_stops Comma depth _ _ r (end_choice r st, no_comma r st) m))
      (choices_again depth _ (_ ∷ []) _ _ r m (end_choice r st, no_comma r st) (omega arith))
  complete _ depth s _ r (g.atom x fs) st =
      atom_again depth (spec.nesting depth) s _ r _ _ (complete _ depth s _ _ x tt) (accesses_again depth _ [] _ _ r fs st (omega arith))
  complete _ _ s _ r (g.not {depth = d} b x) st =
      not_again (suc d) (spec.nesting (suc d)) s _ r _ b (nested_again d nested.Operand 33 s _ r _ b (complete _ d _ _ r x st))
  complete _ depth s e r (g.bare x) st = bare_again depth (spec.nesting depth) s r e (atom_at depth s e r x) (complete _ depth s e r x st)
  complete _ depth s _ r (g.compare x o y) st =
      compare_again depth (spec.nesting depth) s _ _ r _ _ _ (complete _ depth s _ _ x (compares_operand _ _ _ o)) o (complete _ depth _ _ r y st.0)
  complete _ depth s e r (g.single x) st = single_again depth (spec.nesting depth) s r e (complete _ depth s e r x st.0) st.1
  complete _ depth s _ r (g.both x m) st =
      both_again depth (spec.nesting depth) s _ r _ _ (complete Compare depth s _ _ x (next_stops And depth _ _ r ((st.0, st.1), st.2) m))
      (compares_again depth _ [] _ _ r m ((st.0, st.1), st.2) (omega arith))
  complete _ depth s _ r (g.either x m) st =
      either_again depth (spec.nesting depth) s _ r _ _ (complete Both depth s _ _ x (next_stops Or depth _ _ r ((st.0, st.1, st.2), st.3) m))
      (boths_again depth _ [] _ _ r m ((st.0, st.1, st.2), st.3) (omega arith))
  complete _ _ s _ r (g.choice {depth = d} x b y c z) st =
      choice_again (suc d) (spec.nesting (suc d)) s _ _ _ _ r _ _ _ (complete _ (suc d) s _ _ x (question_either _ _ b)) b
      (nested_again d nested.Choice 63 _ _ _ _ b (complete _ d _ _ _ y (colon_choice _ _ c))) c (nested_again d nested.Choice 58 _ _ r _ c (complete _ d _ _ r z st))
  complete _ depth s e r (g.only x) st = only_again depth (spec.nesting depth) s r e (complete _ depth s e r x (st.0, st.1, st.2, st.3)) st.4

  compares_again : (depth k : ℕ) (found : List ExprNode) (s : List ℕ) (es : List ExprNode) (r : List ℕ) → More And depth s es r → After And r → length s ≤ k
      → spec.chain (spec.compare depth (spec.nesting depth)) 38 k found s ≡ Ok (found ++ es, r)
  compares_again depth k found s _ _ g.end st le = chain_stop (spec.compare depth (spec.nesting depth)) 38 k found s st.1
  compares_again depth zero found s _ r (g.more o x m) st le = absurd (omega (arith, separates-short And _ _ o))
  compares_again depth (suc k) found s _ r (g.more o x m) st le =
      chain_turn And (spec.compare depth (spec.nesting depth)) k found s _ _ r _ _ o (complete Compare depth _ _ _ x (next_stops And depth _ _ r st m))
      (compares_again depth k (found ++ _ ∷ []) _ _ r m st (omega (arith, separates-short And _ _ o, reads-short _ _ _ _ _ x)))

  boths_again : (depth k : ℕ) (found : List ExprNode) (s : List ℕ) (es : List ExprNode) (r : List ℕ) → More Or depth s es r → After Or r → length s ≤ k
      → spec.chain (spec.both depth (spec.nesting depth)) 124 k found s ≡ Ok (found ++ es, r)
  boths_again depth k found s _ _ g.end st le = chain_stop (spec.both depth (spec.nesting depth)) 124 k found s st.1
  boths_again depth zero found s _ r (g.more o x m) st le = absurd (omega (arith, separates-short Or _ _ o))
  boths_again depth (suc k) found s _ r (g.more o x m) st le =
      chain_turn Or (spec.both depth (spec.nesting depth)) k found s _ _ r _ _ o (complete Both depth _ _ _ x (next_stops Or depth _ _ r st m))
      (boths_again depth k (found ++ _ ∷ []) _ _ r m st (omega (arith, separates-short Or _ _ o, reads-short _ _ _ _ _ x)))

  choices_again : (depth k : ℕ) (found : List ExprNode) (s : List ℕ) (es : List ExprNode) (r : List ℕ) → More Comma depth s es r → After Comma r → length s ≤ k
      → spec.chain (spec.choice depth (spec.nesting depth)) 44 k found s ≡ Ok (found ++ es, r)
  choices_again depth k found s _ _ g.end st le = chain_stop (spec.choice depth (spec.nesting depth)) 44 k found s st.1
  choices_again depth zero found s _ r (g.more o x m) st le = absurd (omega (arith, separates-short Comma _ _ o))
  choices_again depth (suc k) found s _ r (g.more o x m) st le =
      chain_turn Comma (spec.choice depth (spec.nesting depth)) k found s _ _ r _ _ o (complete Choice depth _ _ _ x (next_stops Comma depth _ _ r st m))
      (choices_again depth k (found ++ _ ∷ []) _ _ r m st (omega (arith, separates-short Comma _ _ o, reads-short _ _ _ _ _ x)))
