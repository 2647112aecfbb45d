pub mod ShapesOfNumbers
