-- BYTE STRIDES FROM PYTHON TOOLS, document 02's ask 5: "Laboratories describe arrays by the NumPy array interface: byte strides, last axis
-- fastest by habit." Descriptions says which texts are in the form, Numpy what a text says in our numbers and the way back, Memory what the C
-- functions answer; Readers what the inner functions answer. The others are what holds: a text says one thing at most (Once), each way is
-- undone by the other (proofs/Trips), packed is C order (Packed), and small descriptions computed (Figures).
pub mod Descriptions
pub mod Numpy
pub mod Memory
pub mod Readers
pub mod Reversing
pub mod Units
pub mod Packed
pub mod Once
pub mod Figures
