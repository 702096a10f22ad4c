mod Numbers
mod Powers
