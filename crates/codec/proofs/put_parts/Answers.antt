-- `put_parts` writes the three parts, each into its place.
use Rattle.std.proofs.Common.{ap, ap₂, ◌∙◌, ℕ, List, ◌∷◌, ◌++◌, length}
use Rattle.packet.proofs.PacketLaws.{length_bytes}
use Rattle.codec.proofs.VerdictLaws.{high_first, parts_laid}
use Rattle.codec.proofs.put_parts.Goals as goal

pub returns : goal.returns
returns c =
    let a = c.args in
    let number = c.copy_from_slice.ensures.after ∙ c.to_be_bytes.ensures ∙ high_first 8 a.count in
    parts_laid a.bytes.now a.kind c.requires c.copy_from_slice.new.self (ap length number ∙ length_bytes 8 a.count) c.put_pattern.new.bytes
    ∙ ap₂ (λ (ys zs : List ℕ). a.kind ∷ (ys ++ zs)) number c.put_pattern.ensures
