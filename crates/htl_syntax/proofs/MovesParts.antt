-- Each part is read before other texts too, which makes each prefix that reading passed a prefix of a text of the grammar.
use Rattle.std.proofs.Common.{ℕ, suc, List, [], ◌∷◌}
use Rattle.htl_syntax.specs.declared.node.ExprNode.{ExprNode}
use Rattle.htl_syntax.specs.declared.node.ExprNode.TheVariants as expr_node
use Rattle.htl_syntax.specs.declared.tokens.NameKind.TheVariants.{Name, Field}
use Rattle.htl_syntax.specs.Grammar.{Byte, Separator, And, Or, Comma, Separates, GrammarPart, part_of, Choice, Either, Both, Compare, Operand, Atom, Start, Items, Reads, More, Access, Accesses}
use Rattle.htl_syntax.specs.Grammar as g
use Rattle.htl_syntax.proofs.Moves.{Moves, Steps, Then, moves_of, moves_map, moves_then, steps_then, none_moves}
use Rattle.htl_syntax.proofs.MovesTokens.{byte_steps, operator_steps, compares_steps, ComparesOf, string_steps, StringOf, name_moves, NameTokenOf, number_moves, NumberOf}

abbrev pub AccessOf : ℕ → List ℕ → List ℕ → List ℕ → Type 0
AccessOf depth f s r = Access depth s f r

abbrev pub AccessesOf : ℕ → List (List ℕ) → List ℕ → List ℕ → Type 0
AccessesOf depth fs s r = Accesses depth s fs r

abbrev pub ReadsOf : GrammarPart → ℕ → ExprNode → List ℕ → List ℕ → Type 0
ReadsOf part depth e s r = Reads part depth s e r

abbrev pub MoreOf : Separator → ℕ → List ExprNode → List ℕ → List ℕ → Type 0
MoreOf sep depth es s r = More sep depth s es r

pub access_moves : (depth : ℕ) (s f r : List ℕ) → Access depth s f r → Moves (AccessOf depth f) s r
access_moves depth s f r (g.field {r1 = r1} b x) =
    moves_map (Then (Byte 46) (NameTokenOf Field f)) (AccessOf depth f) s r (λ s' r' q. g.field q.1 q.2)
    (steps_then (Byte 46) (NameTokenOf Field f) s r1 r (byte_steps 46 s r1 b) (name_moves Field r1 f r x))
access_moves _ s f r (g.bracket {depth = d} {r1 = r1} {r2 = r2} b x c) =
    moves_map (Then (Byte 91) (Then (StringOf f) (Byte 93))) (AccessOf (suc d) f) s r (λ s' r' q. g.bracket q.1 q.2.1 q.2.2)
    (steps_then (Byte 91) (Then (StringOf f) (Byte 93)) s r1 r (byte_steps 91 s r1 b)
    (steps_then (StringOf f) (Byte 93) r1 r2 r (string_steps r1 f r2 x) (moves_of (Byte 93) (Byte 93) r2 r (λ s' r' q. q) (byte_steps 93 r2 r c))))

pub accesses_moves : (depth : ℕ) (s : List ℕ) (fs : List (List ℕ)) (r : List ℕ) → Accesses depth s fs r → Moves (AccessesOf depth fs) s r
accesses_moves depth s _ _ g.none = none_moves (AccessesOf depth []) s (λ z. g.none)
accesses_moves depth s _ r (g.more {f = f} {r1 = r1} {fs = fs} a o) =
    moves_map (Then (AccessOf depth f) (AccessesOf depth fs)) (AccessesOf depth (f ∷ fs)) s r (λ s' r' q. g.more q.1 q.2)
    (moves_then (AccessOf depth f) (AccessesOf depth fs) s r1 r (access_moves depth s f r1 a) (accesses_moves depth r1 fs r o))

pub separates_steps : (sep : Separator) (s r : List ℕ) → Separates sep s r → Steps (Separates sep) s r
separates_steps And s r o = operator_steps 38 38 s r o
separates_steps Or s r o = operator_steps 124 124 s r o
separates_steps Comma s r o = byte_steps 44 s r o

mutual
  pub reads_moves : (part : GrammarPart) (depth : ℕ) (s : List ℕ) (e : ExprNode) (r : List ℕ) → Reads part depth s e r → Moves (ReadsOf part depth e) s r
  reads_moves _ depth s e r (g.string {w = w} x) = moves_of (StringOf w) (ReadsOf Start depth _) s r (λ s' r' q. g.string q) (string_steps s w r x)
  reads_moves _ depth s e r (g.number {k = k} x) = moves_map (NumberOf k) (ReadsOf Start depth _) s r (λ s' r' q. g.number q) (number_moves s k r x)
  reads_moves _ depth s e r (g.name {w = w} x o) = moves_map (NameTokenOf Name w) (ReadsOf Start depth _) s r (λ s' r' q. g.name q o) (name_moves Name s w r x)
  reads_moves _ depth s e r (g.object {w = w} {r1 = r1} {f = f} x o a) =
      moves_map _ (ReadsOf Start depth _) s r (λ s' r' q. g.object q.1 o q.2) (moves_then (NameTokenOf Name w) (AccessOf depth f) s r1 r (name_moves Name s w r1 x) (access_moves depth r1 f r a))
  reads_moves _ _ s e r (g.inside {depth = d} {r1 = r1} {r2 = r2} b x c) =
      moves_map _ (ReadsOf Start (suc d) e) s r (λ s' r' q. g.inside q.1 q.2.1 q.2.2)
      (steps_then (Byte 40) (Then (ReadsOf Choice d e) (Byte 41)) s r1 r (byte_steps 40 s r1 b)
      (moves_then (ReadsOf Choice d e) (Byte 41) r1 r2 r (reads_moves Choice d r1 e r2 x) (moves_of (Byte 41) (Byte 41) r2 r (λ s' r' q. q) (byte_steps 41 r2 r c))))
  reads_moves _ _ s e r (g.list {depth = d} {r1 = r1} {r2 = r2} b x c) =
      moves_map _ (ReadsOf Start (suc d) e) s r (λ s' r' q. g.list q.1 q.2.1 q.2.2)
      (steps_then (Byte 91) (Then (ReadsOf Items d e) (Byte 93)) s r1 r (byte_steps 91 s r1 b)
      (moves_then (ReadsOf Items d e) (Byte 93) r1 r2 r (reads_moves Items d r1 e r2 x) (moves_of (Byte 93) (Byte 93) r2 r (λ s' r' q. q) (byte_steps 93 r2 r c))))
  reads_moves _ depth s _ _ g.no_items = none_moves (ReadsOf Items depth (expr_node.List [])) s (λ z. g.no_items)
  reads_moves _ depth s _ r (g.items {r1 = r1} {e = e} {es = es} x m) =
      moves_map _ (ReadsOf Items depth (expr_node.List (e ∷ es))) s r (λ s' r' q. g.items q.1 q.2) (moves_then (ReadsOf Choice depth e) (MoreOf Comma depth es) s r1 r (reads_moves Choice depth s e r1 x) (more_moves Comma depth r1 es r m))
  reads_moves _ depth s _ r (g.atom {r1 = r1} {e = e} {fs = fs} x o) =
      moves_map _ (ReadsOf Atom depth _) s r (λ s' r' q. g.atom q.1 q.2) (moves_then (ReadsOf Start depth e) (AccessesOf depth fs) s r1 r (reads_moves Start depth s e r1 x) (accesses_moves depth r1 fs r o))
  reads_moves _ _ s _ r (g.not {depth = d} {r1 = r1} {e = e} b x) =
      moves_map _ (ReadsOf Operand (suc d) _) s r (λ s' r' q. g.not q.1 q.2) (steps_then (Byte 33) (ReadsOf Operand d e) s r1 r (byte_steps 33 s r1 b) (reads_moves Operand d r1 e r x))
  reads_moves _ depth s e r (g.bare x) = moves_map (ReadsOf Atom depth e) (ReadsOf Operand depth e) s r (λ s' r' q. g.bare q) (reads_moves Atom depth s e r x)
  reads_moves _ depth s _ r (g.compare {r1 = r1} {r2 = r2} {a = a} {b = b} {op = op} x o y) =
      moves_map _ (ReadsOf Compare depth _) s r (λ s' r' q. g.compare q.1 q.2.1 q.2.2)
      (moves_then (ReadsOf Operand depth a) (Then (ComparesOf op) (ReadsOf Operand depth b)) s r1 r (reads_moves Operand depth s a r1 x)
      (steps_then (ComparesOf op) (ReadsOf Operand depth b) r1 r2 r (compares_steps r1 op r2 o) (reads_moves Operand depth r2 b r y)))
  reads_moves _ depth s e r (g.single x) = moves_map (ReadsOf Operand depth e) (ReadsOf Compare depth e) s r (λ s' r' q. g.single q) (reads_moves Operand depth s e r x)
  reads_moves _ depth s _ r (g.both {r1 = r1} {e = e} {es = es} x m) =
      moves_map _ (ReadsOf Both depth _) s r (λ s' r' q. g.both q.1 q.2) (moves_then (ReadsOf Compare depth e) (MoreOf And depth es) s r1 r (reads_moves Compare depth s e r1 x) (more_moves And depth r1 es r m))
  reads_moves _ depth s _ r (g.either {r1 = r1} {e = e} {es = es} x m) =
      moves_map _ (ReadsOf Either depth _) s r (λ s' r' q. g.either q.1 q.2) (moves_then (ReadsOf Both depth e) (MoreOf Or depth es) s r1 r (reads_moves Both depth s e r1 x) (more_moves Or depth r1 es r m))
  reads_moves _ _ s _ r (g.choice {depth = d} {r1 = r1} {r2 = r2} {r3 = r3} {r4 = r4} {c = c} {a = a} {b = b} x q y k z) =
      moves_map _ (ReadsOf Choice (suc d) _) s r (λ s' r' w. g.choice w.1 w.2.1 w.2.2.1 w.2.2.2.1 w.2.2.2.2)
      (moves_then (ReadsOf Either (suc d) c) (Then (Byte 63) (Then (ReadsOf Choice d a) (Then (Byte 58) (ReadsOf Choice d b)))) s r1 r (reads_moves Either (suc d) s c r1 x)
      (steps_then (Byte 63) (Then (ReadsOf Choice d a) (Then (Byte 58) (ReadsOf Choice d b))) r1 r2 r (byte_steps 63 r1 r2 q)
      (moves_then (ReadsOf Choice d a) (Then (Byte 58) (ReadsOf Choice d b)) r2 r3 r (reads_moves Choice d r2 a r3 y)
      (steps_then (Byte 58) (ReadsOf Choice d b) r3 r4 r (byte_steps 58 r3 r4 k) (reads_moves Choice d r4 b r z)))))
  reads_moves _ depth s e r (g.only x) = moves_map (ReadsOf Either depth e) (ReadsOf Choice depth e) s r (λ s' r' q. g.only q) (reads_moves Either depth s e r x)

  pub more_moves : (sep : Separator) (depth : ℕ) (s : List ℕ) (es : List ExprNode) (r : List ℕ) → More sep depth s es r → Moves (MoreOf sep depth es) s r
  more_moves sep depth s _ _ g.end = none_moves (MoreOf sep depth []) s (λ z. g.end)
  more_moves sep depth s _ r (g.more {r1 = r1} {r2 = r2} {e = e} {es = es} o x m) =
      moves_map _ (MoreOf sep depth (e ∷ es)) s r (λ s' r' q. g.more q.1 q.2.1 q.2.2)
      (steps_then (Separates sep) (Then (ReadsOf (part_of sep) depth e) (MoreOf sep depth es)) s r1 r (separates_steps sep s r1 o)
      (moves_then (ReadsOf (part_of sep) depth e) (MoreOf sep depth es) r1 r2 r (reads_moves (part_of sep) depth r1 e r2 x) (more_moves sep depth r2 es r m)))
