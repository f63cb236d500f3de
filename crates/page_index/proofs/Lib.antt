mod KeyLemmas
mod StampLemmas
mod HeldLemmas
mod IndexLemmas
mod AgreementLemmas
mod AnswerHeadLemmas
