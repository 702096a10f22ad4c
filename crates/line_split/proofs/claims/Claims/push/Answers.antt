use Rattle.std.proofs.Common.{◌≡◌, ◌<◌, ℕ, All, length, sym, ap, arith}
use Rattle.std.proofs.lemmas.List.{length_push}
use Rattle.line_split.specs.WithRoom.{WithRoom}
use Rattle.line_split.proofs.ByAccount.{claims_more}
use Rattle.line_split.proofs.claims.Claims.push.Goals as goal

pub invariant_of-self : goal.invariant_of-self
invariant_of-self c =
    let list : c.args.self.now.list ≡ c.self.inside.pairs.items = ap (λ (claims : WithRoom ℕ). claims.list) (sym c.self.view_is) in
    let room : c.self.inside.room ≡ c.args.self.now.room = ap (λ (claims : WithRoom ℕ). claims.room) c.self.view_is in
    let free : length c.self.inside.pairs.items < c.self.inside.room = rw (room, ← list) c.requires.room in
    let above : All (λ other. other.0 < c.args.account) c.self.inside.pairs.items = rw list at c.requires.rising in
    let longer = length_push c.self.inside.pairs.items (c.args.account, c.args.claim) in
    rw c.push_reserved.ensures.items (
      claims_more c.self.inside.pairs.items c.args.account c.args.claim c.self.invariant.0 (omega arith) c.requires.account above c.requires.claim,
      omega arith,
      c.self.invariant.2,
      omega (arith, c.push_reserved.ensures.capacity),
    )
