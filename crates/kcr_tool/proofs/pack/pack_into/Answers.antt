use Rattle.kcr_tool.proofs.{Common.writing, Common.packed_head, Verifications.packed_ends}
use Rattle.kcr_tool.proofs.pack.pack_into.Goals as goal

pub returns-clause-ends : goal.returns-clause-ends
returns-clause-ends g c =
    let w = writing g.W.Write.contents c.args.output.now c.write_verification.new.output in
    packed_ends packed_head w c.args.packed.now.count c.write_verification.result c.write_verification.ensures.told c.write_verification.ensures.part
