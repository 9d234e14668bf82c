use Rattle.chain.proofs.Damaged.{chain_is}
use Rattle.chain.proofs.store.ChainStore.new.Goals as goal

pub returns-clause-chain : goal.returns-clause-chain
returns-clause-chain c = chain_is c.args.memory.now c.args.first
