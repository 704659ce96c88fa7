-- What is written of a position.
use Rattle.std.proofs.Common.{◌≡◌, ◌<◌, ◌≤◌, Bool, true, ◌&&◌, leb, List, [], ◌∷◌, ◌++◌, take, IfSome, Some, None, Option, arith}
use Rattle.std.specs.Option.{option_map}
use Rattle.std.proofs.lemmas.Bool.{and_parts, leb-true}
use Rattle.rules.specs.declared.breach.Breach.{Breach}
use Rattle.rules.specs.declared.breach.Breach.TheVariants.{Counters}
use Rattle.laws.specs.declared.position.Position.{Position}
use Rattle.board.specs.declared.square.Square.{Square}
use Rattle.rules.specs.Lawful.{counters_stand, laws, all_hold, lawful}
use Rattle.rules.specs.Parts.{Parts}
use Rattle.laws.specs.Position.{position_parts}
use Rattle.laws.specs.Setup.{square_number}
use Rattle.rules.proofs.LawfulLaws.{lawful_board}
use Rattle.notation.specs.Fen.{fen, fen_parts}
use Rattle.notation.proofs.FenLaws.{reads_back}

last_holds : (ls : List (Bool × Breach)) (l : Bool × Breach) → all_hold (ls ++ (l ∷ [])) ≡ true → l.0 ≡ true
last_holds [] l e = (and_parts l.0 true e).0
last_holds (x ∷ ls) l e = last_holds ls l (and_parts x.0 (all_hold (ls ++ (l ∷ []))) e).1

lawful_counters : (p : Parts) → lawful p ≡ true → (p.clock ≤ 9999) × (p.number ≤ 9999)
unfolding lawful counters_stand
lawful_counters p e =
    let h = and_parts (leb p.clock 9999 && leb 1 p.number) (leb p.number 9999) (last_holds (take 6 (laws p)) (counters_stand p.clock p.number, Counters) e) in
    (leb-true p.clock 9999 (and_parts (leb p.clock 9999) (leb 1 p.number) h.0).0, leb-true p.number 9999 h.1)

on_board : (o : Option Square) → IfSome (option_map square_number o) (λ s. s < 64)
on_board None = tt
on_board (Some s) = s.on_board

-- the FEN of a position reads back as that position
pub position_back : (p : Position) → fen_parts (fen (position_parts p)) ≡ Some (position_parts p)
position_back p =
    let c = lawful_counters (position_parts p) p.ok in
    let c0 = c.0 in
    let c1 = c.1 in
    reads_back (position_parts p) (lawful_board (position_parts p) p.ok) (on_board p.setup.en_passant) (omega arith) (omega arith)
